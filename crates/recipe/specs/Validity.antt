-- What a valid table is. Assumes nothing. (docs/RULES.md, "Checking a table")
use Rattle.std.specs.Prelude.{◌≡◌, ℕ, ◌<◌, ◌≤◌, List, length, Some}
use Rattle.std.specs.List.{slice_get}
use Rattle.recipe.specs.declared.places.Place.{Place}
use Rattle.recipe.specs.Common.{In}
use Rattle.recipe.specs.Recipes.{Part}
use Rattle.recipe.specs.Tables.{Table, parts, table_of, depth}

-- a record of a known kind, whose numbers fit the kind, over `many` leaves
pub record Fits (many : ℕ) (x : Place) : Type 0 where
  pub kinds : x.kind ≤ 5
  pub leaves : x.kind ≡ 1 → x.a < many
  pub names : x.kind ≡ 2 → x.a < 64
  pub holes : x.kind ≡ 3 → x.a < 512
  pub binders : x.kind ≡ 4 → x.a < 64
  pub unused_a : x.kind ≡ 0 → x.a ≡ 0
  pub unused_b : x.kind ≤ 3 → x.b ≡ 0

-- parts are higher places of the table, no place is held twice, and no place is too deep
pub record Ordered {L : Type 0} (T : Table L) : Type 0 where
  pub rising : (p : ℕ) (x : Part ℕ) → In x (parts (T.form p)) → (p < x.at) × (x.at < T.size)
  pub once : (p q : ℕ) (x y : Part ℕ) → In x (parts (T.form p)) → In y (parts (T.form q)) → x.at ≡ y.at → (p ≡ q) × (x ≡ y)
  pub shallow : (p : ℕ) → p < T.size → depth T p ≤ 64

-- a table that can be opened
pub record Valid {L : Type 0} (places : List Place) (ls : List L) : Type 0 where
  pub few_places : length places ≤ 512
  pub few_leaves : length ls ≤ 512
  pub fits : (p : ℕ) (x : Place) → slice_get places p ≡ Some x → Fits (length ls) x
  pub ordered : Ordered (table_of places ls)
