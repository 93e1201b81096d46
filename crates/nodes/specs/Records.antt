-- The records of a table in lent words, eight a place: its kind, and two numbers that mean what the kind says. Assumes nothing. (docs/RULES.md, "Records in words")
use Rattle.std.specs.Prelude.{◌≡◌, ℕ, ◌+◌, ◌*◌, ◌<◌, ◌≤◌, cond, List, length, Some, Option, nat_lt, slice_index}
use Rattle.std.specs.Option.{unwrap_or}
use Rattle.recipe.specs.Tables.{Form, Table, form_by}

-- a form with a number in place of a leaf
abbrev pub with_numbers : {L : Type 0} → (L → Option ℕ) → Form L → Form ℕ
with_numbers number Form.nil = Form.nil
with_numbers number (Form.leaf l) = Form.leaf (unwrap_or (number l) 0)
with_numbers number (Form.name x) = Form.name x
with_numbers number (Form.hole h) = Form.hole h
with_numbers number (Form.bind a c) = Form.bind a c
with_numbers number (Form.call c d) = Form.call c d

-- the form that the words of a place write
abbrev pub written_form : List ℕ → ℕ → Form ℕ
written_form ws p = form_by (Some (slice_index ws (8 * p + 1))) (slice_index ws (8 * p + 1)) (slice_index ws (8 * p + 2)) (slice_index ws (8 * p))

-- the table of n places that the words write
abbrev pub written : ℕ → List ℕ → Table ℕ
written n ws = record { size = n; form = λ p. cond (nat_lt p n) (written_form ws p) Form.nil }

-- the words have a row for each of n places
abbrev pub HasRows : ℕ → List ℕ → Type 0
HasRows n ws = 8 * n ≤ length ws

-- each word is as before, but for those at some indices
abbrev pub ChangesOnly : (ℕ → Type 0) → List ℕ → List ℕ → Type 0
ChangesOnly At old new = (i : ℕ) → (At i → ⊥) → slice_index new i ≡ slice_index old i

-- the index of one of the three words that write the form of one of n places
abbrev pub FormWord : ℕ → ℕ → Type 0
FormWord n i = (p : ℕ) × (p < n) × (8 * p ≤ i) × (i < 8 * p + 3)

-- the words write the table, with a number for each leaf
pub record Writes {L : Type 0} (number : L → Option ℕ) (T : Table L) (ws : List ℕ) : Type 0 where
  pub rows : HasRows T.size ws
  pub forms : (p : ℕ) → p < T.size → written_form ws p ≡ with_numbers number (T.form p)
