-- The answers of a listing are right on the table. Assumes nothing.
use Rattle.std.proofs.Common.{◌≡◌, ℕ, Bool, List, [], ◌++◌, nat_eq, subst}
use Rattle.recipe.specs.Histories.{Entry, Right, sheet_table}
use Rattle.recipe.specs.Sameness.{Sameness}
use Rattle.recipe.specs.declared.places.Place.{Place}
use Rattle.closure.specs.OtherLeaves.{SameTables}
use Rattle.sheet.specs.Playing.{AllRightOn, RightEntries, told_more}
use Rattle.sheet.specs.Sheet.{Sheet, numbers, table}
use Rattle.sheet.proofs.Played.{right_append}
use Rattle.sheet.proofs.RightPlay.{right_history, right_of_table}

-- tells on an opened sheet, and then looks
pub right_listed : {L : Type 0} (same : L → L → Bool) → Sameness same → (places : List Place) (ls : List L) (words : ℕ) (s end : Sheet) (told looked : List Entry) → SameTables same nat_eq (sheet_table places ls words) (table s) ls (numbers s) → s.told ≡ [] → AllRightOn s told → end ≡ told_more s told → AllRightOn end looked → Right same (sheet_table places ls words) ls (told ++ looked)
right_listed same laws places ls words s end told looked alike none right is after =
    let all : AllRightOn s (told ++ looked) = right_append nat_eq (table s) (numbers s) s.told told looked right (subst (λ t. AllRightOn t looked) is after) in
    right_of_table same laws places ls words s alike (told ++ looked)
    (right_history nat_eq (table s) (numbers s) (told ++ looked) (subst (λ pairs. RightEntries nat_eq (table s) (numbers s) pairs (told ++ looked)) none all))
