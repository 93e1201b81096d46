use Rattle.nodes.proofs.HolesJoined.{HolesBelow}
use Rattle.nodes.proofs.places.join_holes.Given as goal

abbrev pub invariant-loop-p : goal.invariant-loop-p
invariant-loop-p l = HolesBelow l.size l.words l.p l.rows
