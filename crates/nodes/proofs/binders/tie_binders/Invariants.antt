use Rattle.nodes.specs.BoundNumbers.{Tied}
use Rattle.nodes.proofs.binders.tie_binders.Given as goal

abbrev pub invariant-loop-p : goal.invariant-loop-p
invariant-loop-p l = Tied l.names l.rows l.words l.fn.names_rows l.p l.marks l.names_rows
