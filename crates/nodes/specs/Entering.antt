-- Both forests have all that the told pairs say. Assumes nothing. (docs/RULES.md, "Forests over names")
use Rattle.std.specs.Prelude.{ℕ, List, [], ◌∷◌, ◌++◌, Ok, Err, Result, nat_eq}
use Rattle.recipe.specs.Fillings.{Pair}
use Rattle.recipe.specs.Tables.{Table}
use Rattle.recipe.specs.Tells.{Decided, NoClash, NoCycle}
use Rattle.recipe.specs.declared.refusals.Refusal.{Refusal}
use Rattle.closure.specs.Decision.{WellFormed}
use Rattle.nodes.specs.NameClasses.{NamesJoined}
use Rattle.nodes.specs.PlaceClasses.{PlacesJoined, RootsLink}

-- the forest over places has joined what the pairs and the holes say, and the forest over names what these and the binders say of names below m
pub record Entered {L : Type 0} (T : Table L) (m : ℕ) (told : List Pair) (rows names_rows : List ℕ) : Type 0 where
  pub places : PlacesJoined T told rows
  pub names : NamesJoined T m told names_rows

-- they have so for some told pairs
abbrev pub SomeEntered : {L : Type 0} → Table L → ℕ → List ℕ → List ℕ → Type 0
SomeEntered T m rows names_rows = (told : List Pair) × Entered T m told rows names_rows

-- they have so for some told pairs that are well formed with the pair p, q after them
abbrev pub EnteredBefore : {L : Type 0} → Table L → ℕ → ℕ → ℕ → List ℕ → List ℕ → Type 0
EnteredBefore T m p q rows names_rows =
    (told : List Pair) × WellFormed T m (told ++ ((p, q) ∷ [])) × Entered T m told rows names_rows

-- the forest over places has joined what some told pairs say that are well formed (only private functions cite this and what follows)
abbrev pub PlacesEntered : {L : Type 0} → Table L → List ℕ → Type 0
PlacesEntered T rows =
    (m : ℕ) × (told : List Pair) × WellFormed T m told × PlacesJoined T told rows

-- the forest over places links some told pairs and the pair p, q, and that over names has joined what the told pairs say
abbrev pub NamesBehind : {L : Type 0} → Table L → ℕ → ℕ → ℕ → List ℕ → List ℕ → Type 0
NamesBehind T m p q rows names_rows =
    (told : List Pair) × RootsLink T (told ++ ((p, q) ∷ [])) rows × NamesJoined T m told names_rows

-- what places alone decide: where it refuses, the answer for a well formed table, and else that no places clash and none comes back to itself
abbrev pub DecidedByPlaces : Table ℕ → ℕ → List Pair → Result (Unit {0}) Refusal → Type 0
DecidedByPlaces T m told (Ok _) = NoClash nat_eq T told × NoCycle T told
DecidedByPlaces T m told (Err e) = WellFormed T m told → Decided nat_eq T told (Err e)
