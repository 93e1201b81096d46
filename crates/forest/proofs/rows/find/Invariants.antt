use Rattle.std.proofs.Common.{◌≡◌, ◌≤◌}
use Rattle.forest.specs.Rows.{root}
use Rattle.forest.proofs.rows.find.Given as goal

abbrev pub invariant-loop-node : goal.invariant-loop-node
invariant-loop-node l = record { within : l.node ≤ l.i; same : root l.rows l.node ≡ root l.rows l.i }

abbrev pub decreases-loop-node : goal.decreases-loop-node
decreases-loop-node l = l.node
