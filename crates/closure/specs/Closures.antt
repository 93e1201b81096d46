-- The smallest equivalence that holds some pairs, and carries joined things to their parts. Assumes nothing. (docs/RULES.md, "Joined names")
use Rattle.std.specs.Prelude.{ℕ}

-- Held gives the pairs, and PartOf u s c says that c is the part of u at the step s
pub data Closure {N : Type 0} (Held : N → N → Type 0) (PartOf : N → ℕ → N → Type 0) : N → N → Type 0 where
  itself : {u : N} → Closure Held PartOf u u
  back : {u v : N} → Closure Held PartOf u v → Closure Held PartOf v u
  chain : {u v w : N} → Closure Held PartOf u v → Closure Held PartOf v w → Closure Held PartOf u w
  held : {u v : N} → Held u v → Closure Held PartOf u v
  part : {u v c d : N} {s : ℕ} → Closure Held PartOf u v → PartOf u s c → PartOf v s d → Closure Held PartOf c d
