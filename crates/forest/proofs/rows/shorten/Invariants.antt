use Rattle.std.proofs.Common.{◌≤◌}
use Rattle.forest.specs.Rows.{SameForest}
use Rattle.forest.proofs.rows.shorten.Given as goal

abbrev pub invariant-loop-node : goal.invariant-loop-node
invariant-loop-node l = record { within : l.node ≤ l.i; same : SameForest l.fn.rows l.rows }

abbrev pub decreases-loop-node : goal.decreases-loop-node
decreases-loop-node l = l.node
