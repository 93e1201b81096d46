use Rattle.nodes.specs.Searches.{Searched}
use Rattle.nodes.proofs.cycle.has_cycle.Given as goal

abbrev pub invariant-loop-p : goal.invariant-loop-p
invariant-loop-p l = Searched l.rows l.p l.marks
