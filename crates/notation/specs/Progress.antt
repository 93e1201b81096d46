-- How far a text is read, and what its three lists then hold. Assumes nothing. (only private functions cite it)
use Rattle.std.specs.Prelude.{◌≡◌, ℕ, List, [], length, Some, Ok, Err, Result}
use Rattle.recipe.specs.declared.places.Place.{Place}
use Rattle.recipe.specs.declared.refusals.Refusal.{Refusal}
use Rattle.tokens.specs.Tokens.{Token}
use Rattle.notation.specs.declared.counts.Counts.{Counts}
use Rattle.notation.specs.declared.lent_lists.LentLists.{LentLists}
use Rattle.notation.specs.Grammar.{Tree, SpellsAll}
use Rattle.notation.specs.Fitting.{Room, Fits}
use Rattle.notation.specs.Tables.{row, places_of, names_of, holes_of, leaves_of, numbers_of, padded}
use Rattle.notation.specs.Reading.{room}
use Rattle.notation.specs.Machine.{unused, run}
use Rattle.notation.specs.Threading.{Front, used_by_all, all_rows}
use Rattle.notation.specs.LentLists.{Stands}
use Rattle.notation.specs.Taking.{AllShort}

-- the room of three lists of these lengths, and of leaves
abbrev pub room_for : ℕ → ℕ → ℕ → ℕ → Room
room_for places names holes leaves =
    record { places = room places; names = room names; holes = room holes; leaves = leaves }

-- the tokens s of a text of `size` bytes are recipes and then `left`, and the lists have what the recipes add
pub record Progress (most : Room) (size : ℕ) (s left : List Token) (f : LentLists) : Type 0 where
  pub trees : List Tree
  pub front : Front s trees left
  pub runs : run most size [] 0 unused s ≡ run most size [] 0 (used_by_all unused trees) left
  pub stands : Stands most (used_by_all unused trees) f
  pub written : f.places.now ≡ padded (length f.places.now) (row 0 0 0) (all_rows unused trees)
  pub short : AllShort left

-- the tokens s are recipes that fit, and three lists have their table
pub record Tabled (most : Room) (s : List Token) (places : List Place) (names holes : List ℕ) (counts : Counts) : Type 0 where
  pub trees : List Tree
  pub spells : SpellsAll s trees
  pub fits : Fits most s
  pub places_are : places ≡ padded (length places) (row 0 0 0) (places_of trees)
  pub names_are : names ≡ padded (length names) 0 (numbers_of (names_of trees))
  pub holes_are : holes ≡ padded (length holes) 0 (numbers_of (holes_of trees))
  pub place_count : counts.places ≡ length (places_of trees)
  pub name_count : counts.names ≡ length (names_of trees)
  pub hole_count : counts.holes ≡ length (holes_of trees)
  pub leaf_count : counts.leaves ≡ length (leaves_of trees)

-- the machine refuses the tokens s of a text of `size` bytes
pub record Halted (most : Room) (size : ℕ) (s : List Token) (why : Refusal) : Type 0 where
  pub at : run most size [] 0 unused s ≡ Some why

-- the three lists have the table, or the machine refuses
abbrev pub TabledOrHalted : Room → ℕ → List Token → List Place → List ℕ → List ℕ → Result Counts Refusal → Type 0
TabledOrHalted most size s places names holes (Ok counts) = Tabled most s places names holes counts
TabledOrHalted most size s places names holes (Err why) = Halted most size s why
