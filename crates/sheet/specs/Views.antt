-- The sheet that fields and words are, and what is always so of them. Only the models of the two types cite it. Assumes nothing.
use Rattle.std.specs.Prelude.{◌≡◌, ℕ, zero, suc, false, is_ok, List, [], ◌∷◌, length, map, drop, Ok, Err, Result}
use Rattle.std.specs.List.{range_with_len}
use Rattle.recipe.specs.Checking.{words_for}
use Rattle.recipe.specs.Fillings.{Pair}
use Rattle.recipe.specs.Tables.{Form}
use Rattle.recipe.specs.declared.refusals.Refusal.{Refusal}
use Rattle.nodes.specs.Records.{written_form}
use Rattle.sheet.specs.Layout.{records}
use Rattle.sheet.specs.Sheet.{Sheet}
use Rattle.sheet.specs.Solved.{Solved}

-- the first n pairs of words
unfoldable pub pairs_in : ℕ → List ℕ → List Pair
pairs_in zero ws = []
pairs_in (suc n) [] = []
pairs_in (suc n) (p ∷ []) = []
pairs_in (suc n) (p ∷ q ∷ ws) = (p, q) ∷ pairs_in n ws

-- how many words a sheet needs: those that `check` asks for if it is opened, and none if not
abbrev pub words_of : Result (Unit {0}) Refusal → ℕ → ℕ → ℕ
words_of (Ok u) size m = words_for size m
words_of (Err e) size m = 0

-- what the records write at each place
abbrev pub forms_in : ℕ → List ℕ → List (Form ℕ)
forms_in size ws = map (written_form (records size ws)) (range_with_len 0 size)

-- the sheet of some places, names, leaves and accepted tells in a memory
abbrev pub sheet_in : ℕ → ℕ → ℕ → ℕ → Result (Unit {0}) Refusal → List ℕ → Sheet
sheet_in size m leaves standing opened ws = record {
  forms = forms_in size ws;
  leaves = leaves;
  told = pairs_in standing ws;
  opened = opened;
  beyond = drop (words_of opened size m) ws;
}

-- the memory is solved for its told pairs, which are as many as stand; and a sheet that is not opened has no places
pub record Sound (size m standing : ℕ) (opened : Result (Unit {0}) Refusal) (ws : List ℕ) : Type 0 where
  pub solved : Solved size m (pairs_in standing ws) ws
  pub counted : length (pairs_in standing ws) ≡ standing
  pub empty : is_ok opened ≡ false → size ≡ 0
