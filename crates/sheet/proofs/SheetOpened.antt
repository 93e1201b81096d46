-- The sheet that opening gives, and the empty one where the table is not opened. Assumes nothing.
use Rattle.std.proofs.Common.{◌≡◌, ◌∙◌, ℕ, ◌+◌, ◌*◌, Bool, is_ok, cond, List, [], length, drop, nat_eq, Ok, Err, sym, ap, subst, refl, arith}
use Rattle.std.specs.List.{range_with_len}
use Rattle.recipe.specs.Checking.{checked, needed}
use Rattle.recipe.specs.Common.{first_below}
use Rattle.recipe.specs.Histories.{opening_answer, sheet_table}
use Rattle.recipe.specs.Validity.{Valid}
use Rattle.recipe.specs.declared.places.Place.{Place}
use Rattle.recipe.specs.declared.refusals.Refusal.{Refusal}
use Rattle.recipe.proofs.Opened.{not_opened, opened_table, opens}
use Rattle.recipe.proofs.Validation.{checked_valid}
use Rattle.closure.specs.OtherLeaves.{SameForm, SameTables}
use Rattle.nodes.proofs.LeafNumbers.{nat_sameness}
use Rattle.sheet.specs.Opening.{Opened, numbered_forms, words_taken}
use Rattle.sheet.specs.Sheet.{table}
use Rattle.sheet.specs.Solved.{Solved}
use Rattle.sheet.specs.Views.{Sound, forms_in, pairs_in, sheet_in}
use Rattle.sheet.proofs.Opened.{empty_solved}
use Rattle.sheet.proofs.NumberedForms.{forms_numbered}
use Rattle.sheet.proofs.Sheets.{table_in}
use Rattle.sheet.proofs.Opened.{checked_ok}
use Rattle.recipe.specs.Sameness.{Sameness}

-- no pairs are told at first
pub none_told : (ws : List ℕ) → pairs_in 0 ws ≡ []
unfolding pairs_in
none_told ws = refl

-- a memory that is solved for no pairs is an open sheet
pub sound_opened : (size m : ℕ) (ws : List ℕ) → Solved size m [] ws → Sound size m 0 (Ok tt) ws
sound_opened size m ws solved = record {
  solved = subst (λ told. Solved size m told ws) (sym (none_told ws)) solved;
  counted = ap length (none_told ws);
  empty = λ e. cc;
}

-- the table without places is valid
pub nothing_valid : {L : Type 0} → Valid {L = L} [] []
unfolding first_below
nothing_valid = (checked_valid [] []).0 refl

-- any memory is the empty sheet
pub sound_empty : (e : Refusal) (ws : List ℕ) → Sound 0 0 0 (Err e) ws
sound_empty e ws = record {
  solved = subst (λ told. Solved 0 0 told ws) (sym (none_told ws)) (empty_solved nat_sameness nothing_valid 0 (omega arith) ws refl);
  counted = ap length (none_told ws);
  empty = λ f. refl;
}

-- the table without places is like the table of the empty sheet
pub empty_like : {L : Type 0} (same : L → L → Bool) (places : List Place) (ls : List L) (words leaves : ℕ) (e : Refusal) (ws ks : List ℕ) → opening_answer words (checked places ls) ≡ Err e → SameTables same nat_eq (sheet_table places ls words) (table (sheet_in 0 0 leaves 0 (Err e) ws)) ls ks
empty_like same places ls words leaves e ws ks is = rw (not_opened places ls words e is) (record {
  size = refl;
  forms = λ p. SameForm.nils;
  leaves = λ p q l n k o at. absurd cc;
  numbers = λ p l k at. absurd cc;
})

module _ {L : Type 0} {same : L → L → Bool} {places : List Place} {ls : List L} {names : ℕ} {old new : List ℕ} (opened : Opened same places ls names old new) where
  pub is_opened : opening_answer (length old) (checked places ls) ≡ Ok tt
  is_opened = opens places ls (length old) (checked_ok opened.valid) opened.room

  pub opened_like : (leaves : ℕ) → leaves ≡ length ls → SameTables same nat_eq (sheet_table places ls (length old)) (table (sheet_in (length places) names leaves 0 (Ok tt) new)) ls (range_with_len 0 leaves)
  opened_like leaves many =
      rw (opened_table places ls (length old) (checked_ok opened.valid) opened.room, table_in (length places) names leaves 0 (Ok tt) new, many) opened.copied

  pub opened_beyond : drop (length places * (8 * names + 64) + 1024) new ≡ drop (words_taken places ls (length old)) old
  opened_beyond = rw (is_opened, opened.counted) (opened.past (needed places) (λ some. grind (arith, some, opened.counted)))

-- where a table is not opened no words are taken
pub not_taken : {L : Type 0} (places : List Place) (ls : List L) (words : ℕ) (e : Refusal) → opening_answer words (checked places ls) ≡ Err e → words_taken places ls words ≡ 0
not_taken places ls words e is = ap (λ r. cond (is_ok r) (needed places) 0) is

-- the forms of an opened sheet are those of the table, with the numbers of leaves
pub opened_forms : {L : Type 0} {same : L → L → Bool} {places : List Place} {ls : List L} {names : ℕ} {old new : List ℕ} → Opened same places ls names old new → Sameness same → forms_in (length places) new ≡ numbered_forms same (sheet_table places ls (length old)) ls
opened_forms {same = same} {places = places} {ls = ls} {old = old} {new = new} opened laws =
    forms_numbered same laws places ls new opened.copied
    ∙ ap (λ T. numbered_forms same T ls) (sym (opened_table places ls (length old) (checked_ok opened.valid) opened.room))
