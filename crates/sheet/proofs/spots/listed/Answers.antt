use Rattle.std.proofs.Common.{sym}
use Rattle.nodes.proofs.LeafNumbers.{own_number}
use Rattle.sheet.proofs.LeavesListed.{number_past}
use Rattle.sheet.proofs.spots.listed.Goals as goal

pub returns-then-number-leaves : goal.returns-then-number-leaves
returns-then-number-leaves c = sym (own_number c.args.leaves c.args.number c.if-number-leaves.true)

pub returns-else-number-leaves : goal.returns-else-number-leaves
returns-else-number-leaves c = sym (number_past c.args.leaves c.args.number c.if-number-leaves.false)
