use Rattle.std.proofs.Common.{ℕ, ◌<◌}
use Rattle.nodes.specs.Opposed.{Opposed}
use Rattle.nodes.proofs.clash.search_clash.Given as goal

abbrev pub invariant-loop-p : goal.invariant-loop-p
invariant-loop-p l = (j k : ℕ) → j < l.p → k < l.size → Opposed l.rows l.words j k → ⊥
