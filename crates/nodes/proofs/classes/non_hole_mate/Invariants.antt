use Rattle.std.proofs.Common.{ℕ, ◌<◌}
use Rattle.nodes.specs.NonHoles.{NonHoleMate}
use Rattle.nodes.proofs.classes.non_hole_mate.Given as goal

abbrev pub invariant-loop-q : goal.invariant-loop-q
invariant-loop-q l = (k : ℕ) → k < l.q → NonHoleMate l.rows l.words l.p k → ⊥
