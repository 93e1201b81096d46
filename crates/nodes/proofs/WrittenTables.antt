-- The table that words write of a table: its parts are those of that table, and its leaves are the same where those are. Assumes nothing.
use Rattle.std.proofs.Common.{◌≡◌, ℕ, Bool, nat_eq, List, length, unwrap_or, Option, sym, refl, ap, ◌∙◌, inl, inr, lt-ltb, le-ltb}
use Rattle.std.proofs.lemmas.Bool.{cases_lt, cond-false, cond-true}
use Rattle.std.proofs.lemmas.Option.{slice_get_past}
use Rattle.std.specs.List.{range_with_len, slice_get}
use Rattle.recipe.specs.Links.{kind_of}
use Rattle.recipe.specs.Numbering.{number_of}
use Rattle.recipe.specs.Sameness.{Sameness}
use Rattle.recipe.specs.Tables.{Form, Table, form_at, parts, table_of}
use Rattle.recipe.specs.Validity.{Ordered}
use Rattle.recipe.specs.declared.places.Place.{Place}
use Rattle.closure.specs.OtherLeaves.{SameForm, SameTables}
use Rattle.closure.proofs.OtherLeaves.{alike_kind}
use Rattle.closure.proofs.SameParts.{ordered_over}
use Rattle.nodes.specs.Records.{with_numbers, written, written_form}
use Rattle.nodes.proofs.LeafNumbers.{leaf_numbered, leaf_own, leaves_told}
use Rattle.nodes.proofs.Written.{WritesBelow}

-- a form is like itself with a number for its leaf
alike_numbers : {L : Type 0} (number : L → Option ℕ) (f : Form L) → SameForm f (with_numbers number f)
alike_numbers number Form.nil = SameForm.nils
alike_numbers number (Form.leaf l) = SameForm.leaves
alike_numbers number (Form.name x) = SameForm.names
alike_numbers number (Form.hole h) = SameForm.holes
alike_numbers number (Form.bind a c) = SameForm.binds
alike_numbers number (Form.call c d) = SameForm.calls

number_parts : {L : Type 0} (number : L → Option ℕ) (f : Form L) → parts f ≡ parts (with_numbers number f)
number_parts number Form.nil = refl
number_parts number (Form.leaf l) = refl
number_parts number (Form.name x) = refl
number_parts number (Form.hole h) = refl
number_parts number (Form.bind a c) = refl
number_parts number (Form.call c d) = refl

module _ {L : Type 0} (number : L → Option ℕ) (places : List Place) (ls : List L) (ws : List ℕ) (below : WritesBelow number places ls (length places) ws) where
  abbrev T : Table L
  T = table_of places ls

  abbrev U : Table ℕ
  U = written (length places) ws

  -- the words write what stands at each place, and nil past the end
  form_written : (p : ℕ) → U.form p ≡ with_numbers number (T.form p)
  form_written p = elim (cases_lt p (length places)) [
    | inl h ↦ cond-true _ (written_form ws p) Form.nil (lt-ltb p (length places) h) ∙ below p h
    | inr h ↦ cond-false _ (written_form ws p) Form.nil (le-ltb p (length places) h) ∙ sym (ap (λ x. with_numbers number (form_at ls x)) (slice_get_past places p h))
  ]

  pub written_ordered : Ordered T → Ordered U
  written_ordered =
      ordered_over {T = T} {U = U}
      (record {
        size = refl;
        at = λ p. number_parts number (T.form p) ∙ sym (ap parts (form_written p));
        kinds = λ p y i. alike_kind (alike_numbers number (T.form p)) ∙ sym (ap kind_of (form_written p));
        binds = λ p a c e. form_written p ∙ ap (with_numbers number) e;
        holes = λ p q h d e. inr (h, form_written p ∙ ap (with_numbers number) d, form_written q ∙ ap (with_numbers number) e);
      })

  -- the number of a leaf
  number_at : (p : ℕ) (l : L) (k : ℕ) → T.form p ≡ Form.leaf l → U.form p ≡ Form.leaf k → k ≡ unwrap_or (number l) 0
  number_at p l k at there =
      let same : Form.leaf k ≡ Form.leaf (unwrap_or (number l) 0) = sym there ∙ form_written p ∙ ap (with_numbers number) at in
      cc

pub written_same : {L : Type 0} (same : L → L → Bool) → Sameness same → (places : List Place) (ls : List L) (ws : List ℕ) → WritesBelow (number_of same ls) places ls (length places) ws → SameTables same nat_eq (table_of places ls) (written (length places) ws) ls (range_with_len 0 (length ls))
written_same same laws places ls ws below =
    let number = number_of same ls in
    record {
      size = refl;
      forms = λ p. rw (form_written number places ls ws below p) (alike_numbers number ((table_of places ls).form p));
      leaves = λ p q l n k o d e f g.
          rw (number_at number places ls ws below p l k d f, number_at number places ls ws below q n o e g)
          (leaves_told same laws ls l n (leaf_numbered same laws ls (slice_get places p) l d) (leaf_numbered same laws ls (slice_get places q) n e));
      numbers = λ p l k d e.
          rw (number_at number places ls ws below p l k d e) (leaf_own same laws ls l (leaf_numbered same laws ls (slice_get places p) l d));
    }
