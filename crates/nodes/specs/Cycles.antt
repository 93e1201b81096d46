-- The cycle that is found in a forest over places. Assumes nothing. (docs/RULES.md, "Forests over places")
use Rattle.std.specs.Prelude.{◌≡◌, ℕ, ◌≤◌, List, Option, MatchOption}
use Rattle.recipe.specs.Common.{Least}
use Rattle.recipe.specs.Fillings.{Pair}
use Rattle.recipe.specs.Links.{ComesBack}
use Rattle.recipe.specs.Tables.{Form, Table}
use Rattle.recipe.specs.Tells.{NoCycle}
use Rattle.nodes.specs.PlaceClasses.{PlacesJoined}

-- a forest over the places of some table of this size, with nothing past its end, and for some told pairs
abbrev pub SomeTableJoined : ℕ → List ℕ → Type 0
SomeTableJoined size rows =
    (T : Table ℕ) × (told : List Pair) × (T.size ≡ size) × ((p : ℕ) → T.size ≤ p → T.form p ≡ Form.nil) × PlacesJoined T told rows

-- no place comes back to itself, or this is the lowest that does
abbrev pub FindsCycle : Table ℕ → List Pair → Option ℕ → Type 0
FindsCycle T told r = MatchOption r (NoCycle T told) (Least (ComesBack T told))
