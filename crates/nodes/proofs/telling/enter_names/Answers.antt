use Rattle.std.proofs.Common.{[], ◌∷◌, ◌++◌}
use Rattle.nodes.proofs.NamesEntered.{exact_more, names_entered, some_exact}
use Rattle.nodes.proofs.telling.enter_names.Goals as goal

pub tell_names-requires-clause-exact : goal.tell_names-requires-clause-exact
tell_names-requires-clause-exact c = let (told, roots, names) = c.requires.behind in some_exact _ c.args.names told names

pub tie_binders-requires-clause-exact : goal.tie_binders-requires-clause-exact
tie_binders-requires-clause-exact c =
    let (told, roots, names) = c.requires.behind in
    exact_more c.tell_names.ensures.pairs c.tell_names.ensures.more (some_exact _ c.args.names told names)

pub tie_binders-requires-clause-roots : goal.tie_binders-requires-clause-roots
tie_binders-requires-clause-roots c = let (told, roots, names) = c.requires.behind in (told ++ ((c.args.p, c.args.q) ∷ []), roots)

pub returns : goal.returns
returns c told roots joined =
    names_entered _ c.args.names told c.args.p c.args.q c.requires.first c.requires.second joined c.tell_names.ensures c.tell_names.auto.rows (c.tie_binders.ensures (told ++ ((c.args.p, c.args.q) ∷ [])) roots) c.tie_binders.auto.names_rows
