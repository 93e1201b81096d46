-- Laws of sheets and of the calls on them. Assumes nothing. (docs/RULES.md, "Sheets")
use Rattle.std.specs.Prelude.{◌≡◌, ℕ, Bool, List, ◌++◌, map, nat_eq, Option, Result}
use Rattle.recipe.specs.Alike.{Alikes}
use Rattle.recipe.specs.Histories.{Allowed, Entry, Request, Right, request, sheet_table}
use Rattle.recipe.specs.declared.places.Place.{Place}
use Rattle.recipe.specs.declared.refusals.Refusal.{Refusal}
use Rattle.closure.specs.OtherLeaves.{SameTables}
use Rattle.sheet.specs.Calls.{after_seal, entries, entry_of}
use Rattle.sheet.specs.Sheet.{Sheet, numbers, table}
use Rattle.sheet.specs.declared.calls.Call.{Call}
use Rattle.sheet.specs.declared.calls.Calls.{Calls}
use Rattle.sheet.specs.declared.calls.Look.{Look}

-- a right history of the table of a sheet is a right history of the table that it was opened from
abbrev pub RightOfTheTable : {L : Type 0} → (L → L → Bool) → Type 0
RightOfTheTable {L} same =
    (places : List Place) (ls : List L) (words : ℕ) (s : Sheet) → SameTables same nat_eq (sheet_table places ls words) (table s) ls (numbers s) → (h : List Entry) → Right nat_eq (table s) (numbers s) h → Right same (sheet_table places ls words) ls h

-- and so is a right answer on whether two places are alike
abbrev pub AlikeOfTheTable : {L : Type 0} → (L → L → Bool) → Type 0
AlikeOfTheTable {L} same =
    (places : List Place) (ls : List L) (words : ℕ) (s : Sheet) → SameTables same nat_eq (sheet_table places ls words) (table s) ls (numbers s) → (p q : ℕ) (r : Result Bool Refusal) → Alikes nat_eq (table s) p q r → Alikes same (sheet_table places ls words) p q r

-- the calls that can be written down are allowed, and each list that is allowed is such calls and perhaps looks after a seal
pub record CallsAllowed : Type 0 where
  pub allowed : (c : Calls) → Allowed (map request (entries c))
  pub written : (calls : List Request) → Allowed calls → (front : List Call) × (looks : Option (List Look)) × (map request (map entry_of front ++ after_seal looks) ≡ calls)
