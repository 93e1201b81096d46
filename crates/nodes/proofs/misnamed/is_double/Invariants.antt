use Rattle.std.proofs.Common.{◌≡◌, ◌≢◌, ℕ, ◌<◌}
use Rattle.nodes.specs.MisnamedRoots.{name_root}
use Rattle.nodes.proofs.misnamed.is_double.Given as goal

abbrev pub invariant-loop-y : goal.invariant-loop-y
invariant-loop-y l = (k : ℕ) → k < l.y → k ≢ l.x → name_root l.names_rows l.names l.p k ≡ name_root l.names_rows l.names l.p l.x → ⊥
