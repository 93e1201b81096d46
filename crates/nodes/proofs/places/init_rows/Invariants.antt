use Rattle.std.proofs.Common.{ℕ, ◌<◌}
use Rattle.nodes.specs.Starting.{OwnRow}
use Rattle.nodes.proofs.places.init_rows.Given as goal

abbrev pub invariant-loop-p : goal.invariant-loop-p
invariant-loop-p l = (i : ℕ) → i < l.p → OwnRow l.words l.rows i
