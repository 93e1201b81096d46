-- The forms of an opened sheet: each leaf has its number in the list. Assumes nothing.
use Rattle.std.proofs.Common.{◌≡◌, ℕ, ◌<◌, Bool, true, List, length, is_some, unwrap_or, Some, None, Option, nat_eq, sym, ap, ◌∙◌, refl, inl, inr, arith, lt-ltb}
use Rattle.std.proofs.lemmas.Bool.{both_ways, cases_lt, cond-true}
use Rattle.std.proofs.lemmas.List.FromFn.{get_or-map-range_with_len, length-map-range_with_len}
use Rattle.std.proofs.lemmas.List.{ext_get_or}
use Rattle.std.specs.List.{range_with_len, slice_get}
use Rattle.recipe.specs.Numbering.{number_of}
use Rattle.recipe.specs.Sameness.{Sameness}
use Rattle.recipe.specs.Tables.{Form, table_of}
use Rattle.recipe.specs.declared.places.Place.{Place}
use Rattle.closure.specs.OtherLeaves.{SameForm}
use Rattle.nodes.specs.Records.{with_numbers, written_form}
use Rattle.nodes.proofs.LeafNumbers.{leaf_numbered, own_number}
use Rattle.sheet.specs.Layout.{records}
use Rattle.sheet.specs.Opening.{numbered_forms}
use Rattle.sheet.specs.Solved.{CopiesTable, written_table}
use Rattle.sheet.specs.Views.{forms_in}
use Rattle.sheet.proofs.LeavesListed.{number_past}

-- a number that is found among those below n is found as itself
found_own : (n k j : ℕ) → number_of nat_eq (range_with_len 0 n) k ≡ Some j → j ≡ k
found_own n k j is = elim (cases_lt k n) [
  | inl low ↦ let same : ◌≡◌ {A = Option ℕ} (Some k) (Some j) = sym (own_number n k low) ∙ is in cc
  | inr past ↦ let none : ◌≡◌ {A = Option ℕ} None (Some j) = sym (number_past n k past) ∙ is in cc
]

own_of : (n k : ℕ) (o : Option ℕ) → is_some o ≡ true → o ≡ number_of nat_eq (range_with_len 0 n) k → k ≡ unwrap_or o 0
own_of n k None some is = absurd (both_ways _ refl some)
own_of n k (Some j) some is = sym (found_own n k j (sym is))

-- a form like another, with the number of its leaf
numbered : {L : Type 0} (number : L → Option ℕ) {f : Form L} {g : Form ℕ} → SameForm f g → ((l : L) (k : ℕ) → f ≡ Form.leaf l → g ≡ Form.leaf k → k ≡ unwrap_or (number l) 0) → g ≡ with_numbers number f
numbered number SameForm.nils leaf = refl
numbered number SameForm.leaves leaf = ap Form.leaf (leaf _ _ refl refl)
numbered number SameForm.names leaf = refl
numbered number SameForm.holes leaf = refl
numbered number SameForm.binds leaf = refl
numbered number SameForm.calls leaf = refl

pub forms_numbered : {L : Type 0} (same : L → L → Bool) → Sameness same → (places : List Place) (ls : List L) (ws : List ℕ) → CopiesTable same places ls ws → forms_in (length places) ws ≡ numbered_forms same (table_of places ls) ls
forms_numbered same laws places ls ws copied =
    let leaf : (p : ℕ) → (written_table (length places) ws).form p ≡ with_numbers (number_of same ls) ((table_of places ls).form p) = λ p.
    numbered (number_of same ls) (copied.forms p) (λ l k at there. own_of (length ls) k (number_of same ls l) (leaf_numbered same laws ls (slice_get places p) l at) (copied.numbers p l k at there)) in
    ext_get_or Form.nil (forms_in (length places) ws) (numbered_forms same (table_of places ls) ls)
    (length-map-range_with_len _ 0 (length places) ∙ sym (length-map-range_with_len _ 0 (length places)))
    (λ p low.
    let within : p < length places = omega (arith, low, length-map-range_with_len (written_form (records (length places) ws)) 0 (length places)) in
    get_or-map-range_with_len (written_form (records (length places) ws)) 0 (length places) p p Form.nil within (omega arith)
    ∙ sym (cond-true _ _ Form.nil (lt-ltb p (length places) within))
    ∙ leaf p
    ∙ sym (get_or-map-range_with_len (λ q. with_numbers (number_of same ls) ((table_of places ls).form q)) 0 (length places) p p Form.nil within (omega arith)))
