use Rattle.std.proofs.Common.{ℕ, ◌<◌}
use Rattle.nodes.specs.Searches.{RootReturns}
use Rattle.nodes.proofs.cycle.search_cycle.Given as goal

abbrev pub invariant-loop-p : goal.invariant-loop-p
invariant-loop-p l = (k : ℕ) → k < l.p → RootReturns l.rows k → ⊥
