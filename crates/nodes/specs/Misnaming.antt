-- The misnamed place that is found in the forests over places and names. Assumes nothing. (docs/RULES.md, "Forests over names")
use Rattle.std.specs.Prelude.{ℕ, List, Option, MatchOption}
use Rattle.recipe.specs.Common.{Least}
use Rattle.recipe.specs.Fillings.{Pair}
use Rattle.recipe.specs.Tables.{Table}
use Rattle.closure.specs.Causes.{Misnamed}
use Rattle.closure.specs.Decision.{WellFormed}
use Rattle.nodes.specs.NameClasses.{RootsJoin}
use Rattle.nodes.specs.PlaceClasses.{RootsLink}

-- the roots of both forests tell what is linked and what is joined, for some told pairs that are well formed
abbrev pub SomeRoots : {L : Type 0} → Table L → ℕ → List ℕ → List ℕ → Type 0
SomeRoots T m rows names_rows =
    (told : List Pair) × WellFormed T m told × RootsLink T told rows × RootsJoin T m told names_rows

-- no place is misnamed, or this is the lowest that is
abbrev pub FindsMisnamed : {L : Type 0} → Table L → ℕ → List Pair → Option ℕ → Type 0
FindsMisnamed T m told r =
    MatchOption r ((p : ℕ) → Misnamed T m told p → ⊥) (Least (Misnamed T m told))
