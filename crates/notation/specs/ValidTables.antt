-- When a table that is read is valid, and passes `check`. Assumes nothing. (docs/RULES.md, "Notation")
use Rattle.std.specs.Prelude.{◌≡◌, ℕ, suc, ◌<◌, ◌≤◌, max, ◌↔◌, List, length, take, Option, Ok, All}
use Rattle.tokens.specs.Tokens.{Token}
use Rattle.recipe.specs.declared.places.Place.{Place}
use Rattle.recipe.specs.Checking.{checked, needed}
use Rattle.recipe.specs.Tables.{Table, table_of, depth}
use Rattle.recipe.specs.Validity.{Valid}
use Rattle.notation.specs.declared.counts.Counts.{Counts}
use Rattle.notation.specs.Grammar.{Tree}
use Rattle.notation.specs.Reading.{Lists, Accepts}
use Rattle.notation.specs.Tables.{names_of, holes_of, leaves_of, places_of}

-- how many entries of each list recipes fill
abbrev pub counts_of : List Tree → Counts
counts_of ts =
    record { places = length (places_of ts); names = length (names_of ts); holes = length (holes_of ts); leaves = length (leaves_of ts) }

-- few enough places and names, and a list of few enough leaves with one for each leaf word
pub record Few {L : Type 0} (counts : Counts) (ls : List L) : Type 0 where
  pub places : counts.places ≤ 512
  pub names : counts.names ≤ 64
  pub leaves : length ls ≤ 512
  pub words : counts.leaves ≤ length ls

-- how many binds of a recipe stand one inside the other, at most
unfoldable pub binders : Tree → ℕ
binders Tree.nil = 0
binders (Tree.leaf w) = 0
binders (Tree.name w) = 0
binders (Tree.hole w) = 0
binders (Tree.bind w t) = suc (binders t)
binders (Tree.call t u) = max (binders t) (binders u)

-- no place stands below more than 64 binders
abbrev pub Shallow : {L : Type 0} → Table L → Type 0
Shallow T = (p : ℕ) → p < T.size → depth T p ≤ 64

-- places over leaves are a valid table exactly where the counts are few and no place is too deep, and `check` then says what it needs; none is too deep exactly where no more than 64 binds of a recipe stand one inside the other
pub record ValidWhereFew {L : Type 0} (ts : List Tree) (counts : Counts) (places : List Place) (ls : List L) : Type 0 where
  pub valid : Valid places ls ↔ (Few counts ls × Shallow (table_of places ls))
  pub checks : Few counts ls → Shallow (table_of places ls) → checked places ls ≡ Ok (needed places)
  pub shallow : Shallow (table_of places ls) ↔ All (λ t. binders t ≤ 64) ts

-- this holds of the table of recipes, over any list of leaves
abbrev pub ReadTablesValid : Type 0 → Type 0
ReadTablesValid L = (ts : List Tree) (ls : List L) → ValidWhereFew ts (counts_of ts) (places_of ts) ls

-- and so of the places that a reading has filled, by its counts
abbrev pub CountedTablesValid : Type 0 → Type 0
CountedTablesValid L =
    (reads : List ℕ → Option L) (size : ℕ) (s : List Token) (old new : Lists L) (counts : Counts) (accepts : Accepts reads size s old new counts) (ls : List L) → ValidWhereFew accepts.trees counts (take counts.places new.places) ls
