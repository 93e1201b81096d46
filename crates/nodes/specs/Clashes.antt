-- The clash that is found in a forest over places. Assumes nothing. (docs/RULES.md, "Forests over places")
use Rattle.std.specs.Prelude.{ℕ, List, Option, MatchOption, nat_eq}
use Rattle.recipe.specs.Common.{Least}
use Rattle.recipe.specs.Fillings.{Pair}
use Rattle.recipe.specs.Links.{Clash}
use Rattle.recipe.specs.Tables.{Table}
use Rattle.recipe.specs.Tells.{NoClash}

-- no places clash, or these two do: the lowest place that clashes, and the lowest that it clashes with
abbrev pub FindsClash : Table ℕ → List Pair → Option (ℕ × ℕ) → Type 0
FindsClash T told r =
    MatchOption r (NoClash nat_eq T told) (λ found. Least (λ p. (q : ℕ) × Clash nat_eq T told p q) found.0 × Least (Clash nat_eq T told found.0) found.1)
