-- A closure grows with what it holds. Assumes nothing.
use Rattle.std.proofs.Common.{ℕ}
use Rattle.closure.specs.Closures.{Closure}

-- a closure that holds more pairs joins what is joined
pub closure_over : {N : Type 0} {Held More : N → N → Type 0} {PartOf : N → ℕ → N → Type 0} → ((u v : N) → Held u v → More u v) → {u v : N} → Closure Held PartOf u v → Closure More PartOf u v
closure_over to Closure.itself = Closure.itself
closure_over to (Closure.back c) = Closure.back (closure_over to c)
closure_over to (Closure.chain c d) = Closure.chain (closure_over to c) (closure_over to d)
closure_over to (Closure.held h) = Closure.held (to _ _ h)
closure_over to (Closure.part c i j) = Closure.part (closure_over to c) i j
