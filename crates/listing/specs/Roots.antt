-- The roots of a table, in order. Assumes nothing. (docs/RULES.md, "Listings")
use Rattle.std.specs.Prelude.{◌≡◌, ℕ, ◌<◌, ◌≤◌, Bool, false, ◌↔◌, List, length}
use Rattle.std.specs.List.{list_any}
use Rattle.std.specs.List.Sorted.{IsStrictlyIncreasing}
use Rattle.recipe.specs.Common.{In}
use Rattle.recipe.specs.Tables.{Root, Table, has_part}
use Rattle.recipe.specs.declared.places.Place.{Place}

-- these are the roots of a table, in order
pub record Roots {L : Type 0} (T : Table L) (rs : List ℕ) : Type 0 where
  pub only : (p : ℕ) → Root T p ↔ In p rs
  pub order : IsStrictlyIncreasing rs

-- whether one of the records has p as a part (only private functions cite this and the next)
abbrev pub held_in : List Place → ℕ → Bool
held_in places p = list_any (has_part p) places

-- the roots below n, in order
pub record RootsBelow (places : List Place) (n : ℕ) (rs : List ℕ) : Type 0 where
  pub only : (p : ℕ) → ((p < n) × (held_in places p ≡ false)) ↔ In p rs
  pub order : IsStrictlyIncreasing rs
  pub few : length rs ≤ n
