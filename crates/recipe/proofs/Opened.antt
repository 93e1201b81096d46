-- What `check` accepts is opened where there are enough words, and a sheet has the table that is opened. Assumes nothing.
use Rattle.std.proofs.Common.{◌≡◌, ℕ, ◌≤◌, true, leb, cond, List, Ok, Err, is_ok, ap, ◌∙◌}
use Rattle.std.proofs.lemmas.Bool.{cond-true, le-leb}
use Rattle.recipe.specs.Checking.{checked, needed}
use Rattle.recipe.specs.Histories.{opening_answer, sheet_table}
use Rattle.recipe.specs.Tables.{empty_table, table_of}
use Rattle.recipe.specs.declared.places.Place.{Place}
use Rattle.recipe.specs.declared.refusals.Refusal.{Refusal}
use Rattle.recipe.proofs.Validation.{checked_needs}

module _ {L : Type 0} (places : List Place) (ls : List L) (words : ℕ) where
  pub opens : is_ok (checked places ls) ≡ true → needed places ≤ words → opening_answer words (checked places ls) ≡ Ok tt
  opens ok enough = ap (opening_answer words) (checked_needs places ls ok) ∙ cond-true (leb (needed places) words) _ _ (le-leb (needed places) words enough)

  pub opened_table : is_ok (checked places ls) ≡ true → needed places ≤ words → sheet_table places ls words ≡ table_of places ls
  opened_table ok enough = ap (λ r. cond (is_ok r) (table_of places ls) empty_table) (opens ok enough)

  pub not_opened : (e : Refusal) → opening_answer words (checked places ls) ≡ Err e → sheet_table places ls words ≡ empty_table
  not_opened e is = ap (λ r. cond (is_ok r) (table_of places ls) empty_table) is
