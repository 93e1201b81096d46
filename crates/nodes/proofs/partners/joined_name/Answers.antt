use Rattle.std.proofs.Common.{arith}
use Rattle.nodes.proofs.NameNumbers.{names_end}
use Rattle.nodes.proofs.NamesPartnered.{joined_found}
use Rattle.nodes.proofs.partners.joined_name.Goals as goal

pub name_with_root-requires-clause-first_nodes : goal.name_with_root-requires-clause-first_nodes
name_with_root-requires-clause-first_nodes c = let last = names_end c.args.names c.args.p c.args.size c.requires.first in omega (arith, c.requires.long)

pub name_with_root-requires-clause-second_nodes : goal.name_with_root-requires-clause-second_nodes
name_with_root-requires-clause-second_nodes c = let last = names_end c.args.names c.args.q c.args.size c.requires.second in omega (arith, c.requires.long)

pub returns : goal.returns
returns c T told size roots =
    joined_found T c.args.names told c.args.names_rows.now roots c.args.p c.args.x c.args.q (rw size c.requires.first) (rw size c.requires.second) c.requires.name c.name_with_root.result c.name_with_root.ensures
