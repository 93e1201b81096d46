use Rattle.std.proofs.Common.{◌≡◌, ℕ, ◌<◌}
use Rattle.nodes.specs.MisnamedRoots.{name_root}
use Rattle.nodes.proofs.partners.name_with_root.Given as goal

abbrev pub invariant-loop-y : goal.invariant-loop-y
invariant-loop-y l = (k : ℕ) → k < l.y → name_root l.names_rows l.names l.q k ≡ name_root l.names_rows l.names l.p l.x → ⊥
