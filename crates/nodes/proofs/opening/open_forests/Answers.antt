use Rattle.std.proofs.Common.{[]}
use Rattle.nodes.proofs.NamesEntered.{names_opened, some_exact}
use Rattle.nodes.proofs.opening.open_forests.Goals as goal

pub tie_binders-requires-clause-exact : goal.tie_binders-requires-clause-exact
tie_binders-requires-clause-exact c = some_exact _ c.args.names [] (c.open_names.ensures [])

pub tie_binders-requires-clause-roots : goal.tie_binders-requires-clause-roots
tie_binders-requires-clause-roots c = ([], c.open_places.ensures.roots)

pub returns : goal.returns
returns c = record {
  places = c.open_places.ensures.joined;
  names = names_opened _ c.args.names c.open_names.ensures (c.tie_binders.ensures [] c.open_places.ensures.roots) c.tie_binders.auto.names_rows;
}
