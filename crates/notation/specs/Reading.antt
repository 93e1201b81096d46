-- What a reading of recipes fills, and what it answers. Assumes nothing. (docs/RULES.md, "Notation")
use Rattle.std.specs.Prelude.{◌≡◌, ℕ, ◌^◌, min, List, ◌++◌, length, map, drop, replicate, Some, Ok, Err, Option, Result}
use Rattle.tokens.specs.Tokens.{Token}
use Rattle.recipe.specs.declared.places.Place.{Place}
use Rattle.recipe.specs.declared.refusals.Refusal.{Refusal}
use Rattle.notation.specs.declared.counts.Counts.{Counts}
use Rattle.notation.specs.Grammar.{Tree, SpellsAll}
use Rattle.notation.specs.Fitting.{Room, Fits}
use Rattle.notation.specs.Verdict.{Refused}
use Rattle.notation.specs.Tables.{row, places_of, names_of, holes_of, leaves_of, numbers_of, padded}

-- what the four lists hold
pub record Lists (L : Type 0) : Type 0 where
  pub places : List Place
  pub names : List ℕ
  pub holes : List ℕ
  pub leaves : List L

-- the room of a list: its length, but no more than numbers of 32 bits can count
abbrev pub room : ℕ → ℕ
room n = min n (2 ^ 32)

-- the room of the four lists
abbrev pub room_of : {L : Type 0} → Lists L → Room
room_of lists =
    record {
      places = room (length lists.places);
      names = room (length lists.names);
      holes = room (length lists.holes);
      leaves = room (length lists.leaves);
    }

-- the kind reads the words as the leaves ls, one by one
abbrev pub ReadAs : {L : Type 0} → (List ℕ → Option L) → List (List ℕ) → List L → Type 0
ReadAs reads ws ls = map reads ws ≡ map Some ls

-- the tokens of a text of `size` bytes are recipes that fit and whose leaf words are read, and the lists have the table of the recipes
pub record Accepts {L : Type 0} (reads : List ℕ → Option L) (size : ℕ) (s : List Token) (old new : Lists L) (counts : Counts) : Type 0 where
  pub trees : List Tree
  pub spells : SpellsAll s trees
  pub only : (others : List Tree) → SpellsAll s others → others ≡ trees
  pub fits : Fits (room_of old) s
  pub read : List L
  pub reads_as : ReadAs reads (leaves_of trees) read
  -- places, names and holes are followed by zeros, leaves by what stood there
  pub places : new.places ≡ padded (length old.places) (row 0 0 0) (places_of trees)
  pub names : new.names ≡ padded (length old.names) 0 (numbers_of (names_of trees))
  pub holes : new.holes ≡ padded (length old.holes) 0 (numbers_of (holes_of trees))
  pub leaves : new.leaves ≡ read ++ drop (length read) old.leaves
  -- the four counts
  pub place_count : counts.places ≡ length (places_of trees)
  pub name_count : counts.names ≡ length (names_of trees)
  pub hole_count : counts.holes ≡ length (holes_of trees)
  pub leaf_count : counts.leaves ≡ length read
  -- no refusal would be right
  pub none : (r : Refusal) → Refused (room_of old) size reads s r → ⊥

-- the tokens of a text of `size` bytes are refused by r and by nothing else, and cannot be accepted; the lists are zeroed, but leaves are kept
pub record Refuses {L : Type 0} (reads : List ℕ → Option L) (size : ℕ) (s : List Token) (old new : Lists L) (r : Refusal) : Type 0 where
  pub refused : Refused (room_of old) size reads s r
  pub only : (other : Refusal) → Refused (room_of old) size reads s other → other ≡ r
  pub none : (ts : List Tree) (ls : List L) → SpellsAll s ts → Fits (room_of old) s → ReadAs reads (leaves_of ts) ls → ⊥
  pub places : new.places ≡ replicate (length old.places) (row 0 0 0)
  pub names : new.names ≡ replicate (length old.names) 0
  pub holes : new.holes ≡ replicate (length old.holes) 0
  pub leaves : new.leaves ≡ old.leaves

-- what a reading answers for the tokens of a text of `size` bytes
abbrev pub Reads : {L : Type 0} → (List ℕ → Option L) → ℕ → List Token → Lists L → Lists L → Result Counts Refusal → Type 0
Reads reads size s old new (Ok counts) = Accepts reads size s old new counts
Reads reads size s old new (Err r) = Refuses reads size s old new r
