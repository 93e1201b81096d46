-- Right answers on a sheet are right answers on the table that it was opened from. Assumes nothing.
use Rattle.std.proofs.Common.{◌≡◌, ℕ, ◌<◌, Bool, true, cond, List, [], ◌∷◌, ◌++◌, map, Ok, Err, Result, is_ok, nat_eq, nat_le, sym, ap, ◌∙◌, subst, refl, inl, inr, arith, append_assoc}
use Rattle.std.proofs.lemmas.Bool.{cases_lt, cond-false, cond-true, le-leb, lt-leb}
use Rattle.std.proofs.lemmas.List.{append-nil, map-append}
use Rattle.recipe.specs.Checking.{checked, name_count, needed}
use Rattle.recipe.specs.Fillings.{Pair, Satisfiable}
use Rattle.recipe.specs.Histories.{Entry, Right, RightAfter, accepted_pair, accepted_pairs, opening_answer, request, sheet_table}
use Rattle.recipe.specs.Sameness.{Sameness}
use Rattle.recipe.specs.Tables.{Table, empty_table, table_of}
use Rattle.recipe.specs.Tells.{Tells}
use Rattle.recipe.specs.declared.places.Place.{Place}
use Rattle.recipe.specs.declared.refusals.Refusal.{Refusal}
use Rattle.recipe.proofs.AcceptedTells.{accepted_append, satisfied_more}
use Rattle.recipe.proofs.HistorySteps.{RightFrom, right_from}
use Rattle.recipe.proofs.Validation.{checked_needs, checked_valid}
use Rattle.closure.specs.Decision.{WellFormed}
use Rattle.closure.specs.OtherLeaves.{SameTables}
use Rattle.closure.proofs.OtherLeaves.{leaves_do_not_matter_lem, no_fault, ready_more}
use Rattle.closure.proofs.ValidTables.{valid_well_formed}
use Rattle.nodes.proofs.LeafNumbers.{nat_sameness}
use Rattle.sheet.specs.Calls.{look_entry}
use Rattle.sheet.specs.Opening.{words_taken}
use Rattle.sheet.specs.Playing.{AllRightOn, RightEntries, told_more}
use Rattle.sheet.specs.SheetLaws.{AlikeOfTheTable, RightOfTheTable}
use Rattle.sheet.specs.Sheet.{Sheet, numbers, table}
use Rattle.sheet.specs.declared.calls.Look.{Look}
use Rattle.sheet.proofs.Opened.{none_filled}
use Rattle.sheet.proofs.Played.{right_append}
use Rattle.sheet.proofs.SheetOpened.{nothing_valid}
use Rattle.sheet.proofs.Solving.{ready_after}

-- right answers from some entries on are so one after the other
history_from : {L : Type 0} (same : L → L → Bool) (T : Table L) (ls : List L) (before h : List Entry) → RightEntries same T ls (accepted_pairs before) h → RightFrom same T ls before h
history_from same T ls before [] right = tt
history_from same T ls before (e ∷ h) right = (right.0, history_from same T ls (before ++ (e ∷ [])) h (subst (λ ps. RightEntries same T ls ps h) (sym (accepted_append before (e ∷ []))) right.1))

pub right_history : {L : Type 0} (same : L → L → Bool) (T : Table L) (ls : List L) (h : List Entry) → RightEntries same T ls [] h → Right same T ls h
right_history same T ls h right = right_from same T ls h (history_from same T ls [] h right)

-- a table that is opened was accepted
answered_ok : (words : ℕ) (r : Result ℕ Refusal) (u : Unit {0}) → opening_answer words r ≡ Ok u → is_ok r ≡ true
answered_ok words (Ok n) u is = refl
answered_ok words (Err e) u is = absurd cc

-- as many words as are taken serve as well as all
answer_taken : (words n : ℕ) (r : Result ℕ Refusal) → (is_ok r ≡ true → r ≡ Ok n) → 0 < n → opening_answer (cond (is_ok (opening_answer words r)) n 0) r ≡ opening_answer words r
answer_taken words n (Err e) ok some = refl
answer_taken words n (Ok k) ok some =
    let both : ◌≡◌ {A = Result ℕ Refusal} (Ok k) (Ok n) = ok refl in
    let same : k ≡ n = cc in
    elim (cases_lt words k) [
      | inl short ↦
          let none : opening_answer words (Ok k) ≡ Err Refusal.MemoryTooShort = cond-false (nat_le k words) _ _ (lt-leb k words short) in
          rw none (cond-false (nat_le k 0) _ _ (lt-leb k 0 (omega arith)))
      | inr enough ↦
          let all : opening_answer words (Ok k) ≡ Ok tt = cond-true (nat_le k words) _ _ (le-leb k words enough) in
          rw all (cond-true (nat_le k n) _ _ (le-leb k n (omega arith)))
    ]

-- the table that is opened is well formed
module _ {L : Type 0} (places : List Place) (ls : List L) (words : ℕ) where
  pub sheet_ready : WellFormed (sheet_table places ls words) (name_count places) []
  sheet_ready = ready (opening_answer words (checked places ls)) refl
    where
      ready : (r : Result (Unit {0}) Refusal) → opening_answer words (checked places ls) ≡ r → WellFormed (cond (is_ok r) (table_of places ls) empty_table) (name_count places) []
      ready (Ok u) is = (valid_well_formed places ls (name_count places) [] ((checked_valid places ls).0 (answered_ok words (checked places ls) u is)) (omega arith) (λ p q i. absurd i)).0
      ready (Err e) is = (valid_well_formed [] [] (name_count places) [] nothing_valid (omega arith) (λ p q i. absurd i)).0

  -- what opening answers does not depend on the words that no sheet takes
  pub taken_answer : opening_answer (words_taken places ls words) (checked places ls) ≡ opening_answer words (checked places ls)
  taken_answer = answer_taken words (needed places) (checked places ls) (checked_needs places ls) (omega arith)

-- what is right on one table is right on one like it
module _ {L M : Type 0} (same : L → L → Bool) (other : M → M → Bool) (laws : Sameness same) (others : Sameness other) (T : Table L) (U : Table M) (ls : List L) (ks : List M) (m : ℕ) (alike : SameTables same other T U ls ks) where
  after_over : (pairs : List Pair) (e : Entry) → WellFormed T m pairs → Satisfiable same T pairs → RightAfter other U ks pairs e → RightAfter same T ls pairs e
  after_over pairs (Entry.tell p q r) ready filled right = ((leaves_do_not_matter_lem same other laws others T U ls ks m pairs ready alike).tells p q r).1 right
  after_over pairs (Entry.look p path r) ready filled right = ((leaves_do_not_matter_lem same other laws others T U ls ks m pairs ready alike).looks filled p path r).1 right
  after_over pairs Entry.seal ready filled right = tt

  ready_told : (pairs : List Pair) (p q : ℕ) (r : Result (Unit {0}) Refusal) → WellFormed T m pairs → Tells same T pairs p q r → WellFormed T m (pairs ++ accepted_pair p q r)
  ready_told pairs p q r ready (Tells.refused e) = rw (append-nil pairs) ready
  ready_told pairs p q r ready (Tells.decided none d) = ready_after pairs p q r ready (ready_more T pairs p q ready (no_fault T pairs p q none))

  ready_entry : (pairs : List Pair) (e : Entry) → WellFormed T m pairs → RightAfter same T ls pairs e → WellFormed T m (pairs ++ accepted_pairs (e ∷ []))
  ready_entry pairs (Entry.tell p q r) ready right = rw (append-nil (accepted_pair p q r)) (ready_told pairs p q r ready right)
  ready_entry pairs (Entry.look p path r) ready right = rw (append-nil pairs) ready
  ready_entry pairs Entry.seal ready right = rw (append-nil pairs) ready

  pub right_over : (pairs : List Pair) (h : List Entry) → WellFormed T m pairs → Satisfiable same T pairs → RightEntries other U ks pairs h → RightEntries same T ls pairs h
  right_over pairs [] ready filled right = tt
  right_over pairs (e ∷ h) ready filled right =
      let here : RightAfter same T ls pairs e = after_over pairs e ready filled right.0 in
      (here, right_over (pairs ++ accepted_pairs (e ∷ [])) h (ready_entry pairs e ready here) (satisfied_more same T ls pairs e filled here) right.1)

-- the opened sheet knows why it was not opened
pub answer_of_taken : {L : Type 0} (places : List Place) (ls : List L) (words taken : ℕ) → taken ≡ words_taken places ls words → opening_answer taken (checked places ls) ≡ opening_answer words (checked places ls)
answer_of_taken places ls words taken is = ap (λ n. opening_answer n (checked places ls)) is ∙ taken_answer places ls words

-- a right history has right answers one after the other
entries_right : {L : Type 0} (same : L → L → Bool) (T : Table L) (ls : List L) (before h : List Entry) → Right same T ls (before ++ h) → RightEntries same T ls (accepted_pairs before) h
entries_right same T ls before [] right = tt
entries_right same T ls before (e ∷ h) right =
    (right before h e refl, subst (λ ps. RightEntries same T ls ps h) (accepted_append before (e ∷ [])) (entries_right same T ls (before ++ (e ∷ [])) h (subst (Right same T ls) (sym (append_assoc before (e ∷ []) h)) right)))

-- right answers on a sheet's table are right answers on the table that it was opened from
entries_of_table : {L : Type 0} (same : L → L → Bool) → Sameness same → (places : List Place) (ls : List L) (words : ℕ) (s : Sheet) → SameTables same nat_eq (sheet_table places ls words) (table s) ls (numbers s) → (h : List Entry) → RightEntries nat_eq (table s) (numbers s) [] h → Right same (sheet_table places ls words) ls h
entries_of_table same laws places ls words s alike h right =
    right_history same (sheet_table places ls words) ls h
    (right_over same nat_eq laws nat_sameness (sheet_table places ls words) (table s) ls (numbers s) (name_count places) alike [] h (sheet_ready places ls words) (none_filled same (sheet_table places ls words)) right)

pub right_of_table : {L : Type 0} (same : L → L → Bool) → Sameness same → RightOfTheTable same
right_of_table same laws places ls words s alike h right =
    entries_of_table same laws places ls words s alike h (entries_right nat_eq (table s) (numbers s) [] h right)

pub alike_of_table : {L : Type 0} (same : L → L → Bool) → Sameness same → AlikeOfTheTable same
alike_of_table same laws places ls words s alike p q r right =
    ((leaves_do_not_matter_lem same nat_eq laws nat_sameness (sheet_table places ls words) (table s) ls (numbers s) (name_count places) [] (sheet_ready places ls words) alike).alikes p q r).1 right

-- right answers on the sheet that is opened from a table are a right history of it
pub right_play : {L : Type 0} (same : L → L → Bool) → Sameness same → (places : List Place) (ls : List L) (words taken : ℕ) (s : Sheet) (h : List Entry) → taken ≡ words_taken places ls words → SameTables same nat_eq (sheet_table places ls taken) (table s) ls (numbers s) → s.told ≡ [] → AllRightOn s h → Right same (sheet_table places ls words) ls h
right_play same laws places ls words taken s h is like none right =
    let one : sheet_table places ls taken ≡ sheet_table places ls words = ap (λ r. cond (is_ok r) (table_of places ls) empty_table) (answer_of_taken places ls words taken is) in
    entries_of_table same laws places ls words s (subst (λ T. SameTables same nat_eq T (table s) ls (numbers s)) one like) h
    (subst (λ told. RightEntries nat_eq (table s) (numbers s) told h) none right)

-- looks that are right after some entries are right after a seal too
pub right_sealed : (s : Sheet) (h : List Entry) (looks : List Look) → AllRightOn s h → AllRightOn (told_more s h) (map look_entry looks) → AllRightOn s (h ++ (Entry.seal ∷ map look_entry looks))
right_sealed s h looks right after =
    right_append nat_eq (table s) (numbers s) s.told h (Entry.seal ∷ map look_entry looks) right (tt, subst (λ ps. RightEntries nat_eq (table s) (numbers s) ps (map look_entry looks)) (sym (append-nil _)) after)

-- the calls of entries and of others after them
pub asked_all : (h g k l : List Entry) → map request h ≡ map request g → map request k ≡ map request l → map request (h ++ k) ≡ map request (g ++ l)
asked_all h g k l first second = rw (map-append, map-append, first, second) refl

-- with no seal there is nothing more
pub right_unsealed : (s : Sheet) (h : List Entry) → AllRightOn s h → AllRightOn s (h ++ [])
right_unsealed s h right = rw (append-nil h) right
