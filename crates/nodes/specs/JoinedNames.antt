-- The lowest name of one place that is joined with a name of another. Assumes nothing. (docs/RULES.md, "Forests over names")
use Rattle.std.specs.Prelude.{ℕ, ◌<◌, List, Option, MatchOption}
use Rattle.recipe.specs.Common.{Least}
use Rattle.recipe.specs.Fillings.{Pair}
use Rattle.recipe.specs.Tables.{Table}
use Rattle.closure.specs.Names.{Joined, Node}

-- no name below m of q is joined with the name x of p, or this is the lowest that is
abbrev pub FindsJoined : {L : Type 0} → Table L → ℕ → List Pair → ℕ → ℕ → ℕ → Option ℕ → Type 0
FindsJoined T m told p x q r =
    MatchOption r ((y : ℕ) → y < m → Joined T m told (Node.name p x) (Node.name q y) → ⊥) (Least (λ y. (y < m) × Joined T m told (Node.name p x) (Node.name q y)))
