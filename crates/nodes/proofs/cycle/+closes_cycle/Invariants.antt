use Rattle.std.proofs.Common.{length}
use Rattle.nodes.specs.Searches.{Passed, blanks}
use Rattle.nodes.proofs.cycle.+closes_cycle.Given as goal

abbrev pub decreases-closes_cycle : goal.decreases-closes_cycle
decreases-closes_cycle l = blanks (length l.marks.now) l.marks.now

abbrev pub invariant-loop-side : goal.invariant-loop-side
invariant-loop-side l = Passed l.rows l.root l.side l.initial.marks l.marks
