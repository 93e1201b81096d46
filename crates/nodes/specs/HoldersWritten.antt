-- The holder of each place in the words. Assumes nothing. (docs/RULES.md, "Records in words")
use Rattle.std.specs.Prelude.{◌≡◌, ℕ, ◌+◌, ◌*◌, ◌<◌, ◌≢◌, List, Some, Option, slice_index}
use Rattle.std.specs.Option.{option_map}
use Rattle.forest.specs.Rows.{node_or_none}
use Rattle.recipe.specs.Common.{In}
use Rattle.recipe.specs.Recipes.{Part}
use Rattle.recipe.specs.Tables.{holder, parts}
use Rattle.nodes.specs.Opposed.{HasRow}
use Rattle.nodes.specs.Records.{ChangesOnly, written, written_form}

-- the place that the words have as the holder of p, or none: the word is one more than the place, or 0
abbrev pub written_holder : List ℕ → ℕ → Option ℕ
written_holder ws p = node_or_none (slice_index ws (8 * p + 3))

-- the index of the word for the holder of one of n places
abbrev pub HolderWord : ℕ → ℕ → Type 0
HolderWord n i = (p : ℕ) × (p < n) × (i ≡ 8 * p + 3)

-- the words have the holder of each of n places
abbrev pub HoldersWritten : ℕ → List ℕ → Type 0
HoldersWritten n ws = (p : ℕ) → p < n → written_holder ws p ≡ option_map (λ h. h.place) (holder (written n ws) p)

-- all forms are as before
abbrev pub SameForms : List ℕ → List ℕ → Type 0
SameForms old new = (p : ℕ) → written_form new p ≡ written_form old p

-- the parts of a place have rows (only private functions cite this and the next two)
abbrev pub PartsInside : List ℕ → ℕ → Type 0
PartsInside ws p = (x : Part ℕ) → In x (parts (written_form ws p)) → HasRow ws x.at

-- the words have p as the holder of one place more
pub record HolderSet (p place : ℕ) (old new : List ℕ) : Type 0 where
  pub here : written_holder new place ≡ Some p
  pub others : (c : ℕ) → c ≢ place → written_holder new c ≡ written_holder old c
  pub forms : SameForms old new
  pub only : ChangesOnly (λ i. i ≡ 8 * place + 3) old new

-- the words have p as the holder of these parts too
pub record PartsHeld (p : ℕ) (xs : List (Part ℕ)) (old new : List ℕ) : Type 0 where
  pub held : (x : Part ℕ) → In x xs → written_holder new x.at ≡ Some p
  pub others : (c : ℕ) → ((x : Part ℕ) → In x xs → x.at ≢ c) → written_holder new c ≡ written_holder old c
  pub forms : SameForms old new
  pub only : ChangesOnly (λ i. (x : Part ℕ) × In x xs × (i ≡ 8 * x.at + 3)) old new
