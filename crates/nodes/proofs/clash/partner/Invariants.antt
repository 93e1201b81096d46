use Rattle.std.proofs.Common.{ℕ, ◌<◌}
use Rattle.nodes.specs.Opposed.{Opposed}
use Rattle.nodes.proofs.clash.partner.Given as goal

abbrev pub invariant-loop-q : goal.invariant-loop-q
invariant-loop-q l = (k : ℕ) → k < l.q → Opposed l.rows l.words l.p k → ⊥
