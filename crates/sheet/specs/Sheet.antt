-- A sheet, as its calls see it: the table, the accepted tells, and the words that it leaves alone. Assumes nothing. (docs/RULES.md, "Sheets")
use Rattle.std.specs.Prelude.{ℕ, List, [], ◌∷◌, length, slice_index_or, Result}
use Rattle.std.specs.List.{range_with_len}
use Rattle.recipe.specs.Fillings.{Pair}
use Rattle.recipe.specs.Tables.{Form, Table}
use Rattle.recipe.specs.declared.refusals.Refusal.{Refusal}

-- all that is known of an open or a sealed sheet
pub record Sheet : Type 0 where
  -- what stands at each place, a leaf by its number in the list that the sheet was opened with
  pub forms : List (Form ℕ)
  -- how many leaves that list has
  pub leaves : ℕ
  -- the pairs of the accepted tells, in order
  pub told : List Pair
  -- opened, or why not
  pub opened : Result (Unit {0}) Refusal
  -- the words of the memory past those that the sheet needs
  pub beyond : List ℕ

-- the table of a sheet
abbrev pub table : Sheet → Table ℕ
table s = record { size = length s.forms; form = λ p. slice_index_or s.forms p Form.nil }

-- the numbers of the leaves, in order
abbrev pub numbers : Sheet → List ℕ
numbers s = range_with_len 0 s.leaves

-- the words of pairs, in order
abbrev pub pair_words : List Pair → List ℕ
pair_words [] = []
pair_words ((p, q) ∷ told) = p ∷ q ∷ pair_words told
