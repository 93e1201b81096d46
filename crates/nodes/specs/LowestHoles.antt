-- What a search for the lowest hole under a place finds. Only private functions cite it. Assumes nothing.
use Rattle.std.specs.Prelude.{ℕ, cond, Some, None, Option, MatchOption, nat_lt}
use Rattle.recipe.specs.Alike.{HoleWithin}
use Rattle.recipe.specs.Common.{Least}
use Rattle.recipe.specs.Tables.{Table}

-- r is the lowest number with the property, and none only where none has it
abbrev pub LeastIfAny : (ℕ → Type 0) → Option ℕ → Type 0
LeastIfAny P r = MatchOption r ((k : ℕ) → P k → ⊥) (Least P)

-- the lower of two numbers, where each may be missing
abbrev pub lower_of : Option ℕ → Option ℕ → Option ℕ
lower_of None b = b
lower_of (Some a) None = Some a
lower_of (Some a) (Some b) = Some (cond (nat_lt b a) b a)

-- r is the lowest hole at or under p, or none where none is
abbrev pub FindsHole : {L : Type 0} → Table L → ℕ → Option ℕ → Type 0
FindsHole T p r = LeastIfAny (HoleWithin T p) r
