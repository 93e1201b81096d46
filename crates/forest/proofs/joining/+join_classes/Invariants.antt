use Rattle.forest.specs.Rows.{weight}
use Rattle.forest.proofs.Moves.{Sides}
use Rattle.forest.proofs.joining.+join_classes.Given as goal

abbrev pub decreases-join_classes : goal.decreases-join_classes
decreases-join_classes l = weight l.rows.now

abbrev pub invariant-loop-side : goal.invariant-loop-side
invariant-loop-side l = Sides l.low l.high l.side l.initial.rows l.rows
