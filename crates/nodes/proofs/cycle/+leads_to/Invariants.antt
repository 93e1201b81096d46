use Rattle.std.proofs.Common.{length}
use Rattle.nodes.specs.Searches.{SidesMiss, blanks}
use Rattle.nodes.proofs.cycle.+leads_to.Given as goal

abbrev pub decreases-leads_to : goal.decreases-leads_to
decreases-leads_to l = blanks (length l.marks.now) l.marks.now

abbrev pub invariant-loop-side : goal.invariant-loop-side
invariant-loop-side l = SidesMiss l.rows l.goal l.root l.side l.initial.marks l.marks
