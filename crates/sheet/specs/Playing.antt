-- Right answers one after the other. Only private functions cite it. Assumes nothing.
use Rattle.std.specs.Prelude.{Bool, List, [], ◌∷◌, ◌++◌, nat_eq}
use Rattle.recipe.specs.Fillings.{Pair}
use Rattle.recipe.specs.Histories.{Entry, RightAfter, accepted_pairs}
use Rattle.recipe.specs.Tables.{Table}
use Rattle.sheet.specs.Sheet.{Sheet, numbers, table}

-- each answer is the right one, after these pairs and the tells before it that are accepted
abbrev pub RightEntries : {L : Type 0} → (L → L → Bool) → Table L → List L → List Pair → List Entry → Type 0
RightEntries same T ls pairs [] = Unit {0}
RightEntries same T ls pairs (e ∷ h) = RightAfter same T ls pairs e × RightEntries same T ls (pairs ++ accepted_pairs (e ∷ [])) h

-- an answer is the right one on a sheet as it is
abbrev pub RightOn : Sheet → Entry → Type 0
RightOn s e = RightAfter nat_eq (table s) (numbers s) s.told e

-- each answer is, on the sheet with the tells before it that are accepted
abbrev pub AllRightOn : Sheet → List Entry → Type 0
AllRightOn s h = RightEntries nat_eq (table s) (numbers s) s.told h

-- the sheet with the accepted tells of these entries too
abbrev pub told_more : Sheet → List Entry → Sheet
told_more s h = record s { told = s.told ++ accepted_pairs h }
