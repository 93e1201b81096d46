-- What opening a table takes, and what it leaves. Assumes nothing. (docs/RULES.md, "Sheets")
use Rattle.std.specs.Prelude.{◌≡◌, ℕ, ◌≤◌, Bool, cond, is_ok, List, [], length, map}
use Rattle.std.specs.List.{range_with_len}
use Rattle.recipe.specs.Checking.{checked, name_count, needed}
use Rattle.recipe.specs.Histories.{opening_answer}
use Rattle.recipe.specs.Numbering.{number_of}
use Rattle.recipe.specs.Tables.{Form, Table}
use Rattle.recipe.specs.Validity.{Valid}
use Rattle.recipe.specs.declared.places.Place.{Place}
use Rattle.nodes.specs.Records.{with_numbers}
use Rattle.sheet.specs.Layout.{KeepsPast}
use Rattle.sheet.specs.Solved.{CopiesTable, Solved}

-- the forms of a table, each leaf as its number in a list: the lowest index of a leaf that is the same
abbrev pub numbered_forms : {L : Type 0} → (L → L → Bool) → Table L → List L → List (Form ℕ)
numbered_forms same T ls = map (λ p. with_numbers (number_of same ls) (T.form p)) (range_with_len 0 T.size)

-- how many words of a memory of this length a sheet takes: those that `check` asks for, or none where the table is not opened
abbrev pub words_taken : {L : Type 0} → List Place → List L → ℕ → ℕ
words_taken places ls words = cond (is_ok (opening_answer words (checked places ls))) (needed places) 0

-- a valid table is opened in a memory that has room for it (only private functions cite it)
pub record Opened {L : Type 0} (same : L → L → Bool) (places : List Place) (ls : List L) (names : ℕ) (old new : List ℕ) : Type 0 where
  pub valid : Valid places ls
  pub room : needed places ≤ length old
  pub counted : names ≡ name_count places
  pub solved : Solved (length places) names [] new
  pub copied : CopiesTable same places ls new
  pub past : KeepsPast (length places) names old new
