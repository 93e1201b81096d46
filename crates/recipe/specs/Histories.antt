-- Lists of calls, and when the answers to them are right. Assumes nothing. (docs/RULES.md, "Histories")
use Rattle.std.specs.Prelude.{◌≡◌, ℕ, Bool, cond, List, [], ◌∷◌, ◌++◌, map, is_ok, Ok, Err, Result, nat_le}
use Rattle.recipe.specs.declared.labels.Finding.{Finding}
use Rattle.recipe.specs.declared.refusals.Refusal.{Refusal}
use Rattle.recipe.specs.declared.places.Place.{Place}
use Rattle.recipe.specs.Checking.{checked}
use Rattle.recipe.specs.Fillings.{Pair}
use Rattle.recipe.specs.Looks.{Looks}
use Rattle.recipe.specs.Tables.{Table, empty_table, table_of}
use Rattle.recipe.specs.Tells.{Tells}

-- a call on a sheet
pub data Request : Type 0 where
  tell : ℕ → ℕ → Request
  look : ℕ → List ℕ → Request
  seal : Request

-- a call with its answer
pub data Entry : Type 0 where
  tell : ℕ → ℕ → Result (Unit {0}) Refusal → Entry
  look : ℕ → List ℕ → Result Finding Refusal → Entry
  seal : Entry

-- the call of an entry
abbrev pub request : Entry → Request
request (Entry.tell p q r) = Request.tell p q
request (Entry.look p path r) = Request.look p path
request Entry.seal = Request.seal

-- looks alone
abbrev pub OnlyLooks : List Request → Type 0
OnlyLooks [] = Unit {0}
OnlyLooks (Request.tell p q ∷ calls) = ⊥
OnlyLooks (Request.look p path ∷ calls) = OnlyLooks calls
OnlyLooks (Request.seal ∷ calls) = ⊥

-- tells and looks, and perhaps a seal, after which there are only looks
abbrev pub Allowed : List Request → Type 0
Allowed [] = Unit {0}
Allowed (Request.tell p q ∷ calls) = Allowed calls
Allowed (Request.look p path ∷ calls) = Allowed calls
Allowed (Request.seal ∷ calls) = OnlyLooks calls

-- the pair of an accepted tell
abbrev pub accepted_pair : ℕ → ℕ → Result (Unit {0}) Refusal → List Pair
accepted_pair p q (Ok u) = (p, q) ∷ []
accepted_pair p q (Err e) = []

-- the pairs of the accepted tells, in order
abbrev pub accepted_pairs : List Entry → List Pair
accepted_pairs [] = []
accepted_pairs (Entry.tell p q r ∷ h) = accepted_pair p q r ++ accepted_pairs h
accepted_pairs (Entry.look p path r ∷ h) = accepted_pairs h
accepted_pairs (Entry.seal ∷ h) = accepted_pairs h

module _ {L : Type 0} (same : L → L → Bool) (T : Table L) (ls : List L) where
  -- an answer is the right one, after the accepted pairs
  abbrev pub RightAfter : List Pair → Entry → Type 0
  RightAfter pairs (Entry.tell p q r) = Tells same T pairs p q r
  RightAfter pairs (Entry.look p path r) = Looks same T ls pairs p path r
  RightAfter pairs Entry.seal = Unit {0}

  -- every answer is the right one, given the accepted tells among the entries before it
  abbrev pub Right : List Entry → Type 0
  Right h = (before after : List Entry) (e : Entry) → h ≡ before ++ (e ∷ after) → RightAfter (accepted_pairs before) e

-- a table is opened in a memory of at least as many words as `check` asks for, and else refused: as `check` does, or since the memory is too short
abbrev pub opening_answer : ℕ → Result ℕ Refusal → Result (Unit {0}) Refusal
opening_answer words (Ok n) = cond (nat_le n words) (Ok tt) (Err Refusal.MemoryTooShort)
opening_answer words (Err e) = Err e

-- the table of the sheet that is opened on a memory of some words: the given one, or the empty one where it is refused
abbrev pub sheet_table : {L : Type 0} → List Place → List L → ℕ → Table L
sheet_table places ls words = cond (is_ok (opening_answer words (checked places ls))) (table_of places ls) empty_table

-- what a sheet has to give for every list of calls: an answer to each of them, in order, and every answer right
pub record RightRun {L : Type 0} (same : L → L → Bool) (places : List Place) (ls : List L) (words : ℕ) (calls : List Request) (h : List Entry) : Type 0 where
  pub answered : map request h ≡ calls
  pub right : Right same (sheet_table places ls words) ls h
