-- The form of a place by the kind that the words have, and its parts, which are higher places. Assumes nothing.
use Rattle.std.proofs.Common.{◌≡◌, ℕ, zero, suc, ◌+◌, ◌*◌, ◌<◌, List, slice_index, Some, refl, ◌∙◌, inl, inr, arith}
use Rattle.recipe.specs.Links.{kind_of}
use Rattle.recipe.specs.Recipes.{inside, left, right}
use Rattle.recipe.specs.Tables.{Form, Table, form_by}
use Rattle.recipe.specs.Validity.{Ordered}
use Rattle.nodes.specs.Records.{written, written_form}
use Rattle.nodes.proofs.FirstRows.{form_written}
use Rattle.nodes.proofs.HoldersSet.{bind_form, call_form}
use Rattle.nodes.proofs.KindsThatDiffer.{leaf_written}

-- a form of the kind of names is one, and one of the kind of nil is nil
name_by : (a b k : ℕ) → kind_of (form_by {L = ℕ} (Some a) a b k) ≡ 2 → form_by (Some a) a b k ≡ Form.name a
name_by a b zero e = absurd (omega arith)
name_by a b (suc zero) e = absurd (omega arith)
name_by a b (suc (suc zero)) e = refl
name_by a b (suc (suc (suc zero))) e = absurd (omega arith)
name_by a b (suc (suc (suc (suc zero)))) e = absurd (omega arith)
name_by a b (suc (suc (suc (suc (suc zero))))) e = absurd (omega arith)
name_by a b (suc (suc (suc (suc (suc (suc k)))))) e = absurd (omega arith)

nil_of_kind : {L : Type 0} (f : Form L) → kind_of f ≡ 0 → f ≡ Form.nil
nil_of_kind Form.nil e = refl
nil_of_kind (Form.leaf l) e = absurd (omega arith)
nil_of_kind (Form.name x) e = absurd (omega arith)
nil_of_kind (Form.hole h) e = absurd (omega arith)
nil_of_kind (Form.bind a c) e = absurd (omega arith)
nil_of_kind (Form.call c d) e = absurd (omega arith)

module _ (n : ℕ) (ws : List ℕ) (p : ℕ) (low : p < n) where
  abbrev T : Table ℕ
  T = written n ws

  abbrev first : ℕ
  first = slice_index ws (8 * p + 1)

  abbrev second : ℕ
  second = slice_index ws (8 * p + 2)

  pub kind_there : kind_of (T.form p) ≡ kind_of (written_form ws p)
  kind_there = rw (form_written n ws p low) refl

  pub nil_there : kind_of (written_form ws p) ≡ 0 → T.form p ≡ Form.nil
  nil_there e = form_written n ws p low ∙ nil_of_kind (written_form ws p) e

  pub leaf_there : kind_of (written_form ws p) ≡ 1 → T.form p ≡ Form.leaf first
  leaf_there e = form_written n ws p low ∙ leaf_written ws p e

  pub name_there : kind_of (written_form ws p) ≡ 2 → T.form p ≡ Form.name first
  name_there e = form_written n ws p low ∙ name_by first second (slice_index ws (8 * p)) e

  pub bind_there : kind_of (written_form ws p) ≡ 4 → T.form p ≡ Form.bind first second
  bind_there e = form_written n ws p low ∙ bind_form ws p e

  pub call_there : kind_of (written_form ws p) ≡ 5 → T.form p ≡ Form.call first second
  call_there e = form_written n ws p low ∙ call_form ws p e

  module _ (ordered : Ordered T) where
    pub inside_up : kind_of (written_form ws p) ≡ 4 → (p < second) × (second < n)
    inside_up e = ordered.rising p (inside first second) (rw (bind_there e) (inl refl))

    pub left_up : kind_of (written_form ws p) ≡ 5 → (p < first) × (first < n)
    left_up e = ordered.rising p (left first) (rw (call_there e) (inl refl))

    pub right_up : kind_of (written_form ws p) ≡ 5 → (p < second) × (second < n)
    right_up e = ordered.rising p (right second) (rw (call_there e) (inr (inl refl)))
