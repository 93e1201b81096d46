-- A memory in which a valid table is opened. Assumes nothing.
use Rattle.std.proofs.Common.{◌≡◌, ◌∙◌, ap, Ok, is_ok, true, ℕ, ◌<◌, ◌≤◌, Bool, List, [], length, take, nat_eq, Some, sym, subst, refl, arith, le_refl, suc, ◌∷◌}
use Rattle.std.proofs.lemmas.Bool.Decides.{nat_tests}
use Rattle.std.specs.List.{range_with_len, slice_get}
use Rattle.recipe.specs.Checking.{above_name, checked, name_count, needed}
use Rattle.recipe.specs.Fillings.{Satisfiable}
use Rattle.recipe.specs.Recipes.{Recipe}
use Rattle.recipe.specs.Sameness.{Sameness}
use Rattle.recipe.specs.Tables.{Table, table_of}
use Rattle.recipe.specs.Validity.{Fits, Valid}
use Rattle.recipe.specs.declared.places.Place.{Place}
use Rattle.recipe.proofs.Validation.{checked_needs, checked_valid}
use Rattle.closure.specs.Decision.{HolesBelow, WellFormed}
use Rattle.closure.specs.OtherLeaves.{SameTables}
use Rattle.closure.proofs.OtherLeaves.{alike_back, alike_hole, ready_over}
use Rattle.closure.proofs.ValidTables.{valid_well_formed}
use Rattle.nodes.specs.HoldersWritten.{HoldersWritten}
use Rattle.nodes.specs.Records.{written}
use Rattle.nodes.proofs.WrittenTables.{written_same}
use Rattle.sheet.specs.Layout.{forests_start, marks_start, records, used}
use Rattle.sheet.specs.Solved.{EnteredIn, HasTable, SlicesHold, Solved, written_table}
use Rattle.sheet.proofs.Told.{records_kept}
use Rattle.sheet.proofs.Whole.{Cut, memory_holds, table_is, table_over}

-- no pairs have any filling
pub none_filled : {L : Type 0} (same : L → L → Bool) (T : Table L) → Satisfiable same T []
none_filled same T = (λ h. Recipe.nil, λ pair i. absurd i)

module _ {L : Type 0} {same : L → L → Bool} {places : List Place} {ls : List L} {U : Table ℕ} {ks : List ℕ} (valid : Valid places ls) (m : ℕ) (named : name_count places ≤ m) (alike : SameTables same nat_eq (table_of places ls) U ls ks) where
  -- a table like a valid one is well formed, and its holes are below 512
  pub opened_ready : WellFormed U m []
  opened_ready = ready_over alike (valid_well_formed places ls m [] valid named (λ p q i. absurd i)).0

  pub opened_holes : HolesBelow U
  opened_holes p h e = (valid_well_formed places ls m [] valid named (λ s t i. absurd i)).1 p h (alike_hole (alike_back (alike.forms p)) e)

-- the table of words whose records are written
pub opened_table : {L : Type 0} {same : L → L → Bool} {places : List Place} {ls : List L} {ks : List ℕ} (m : ℕ) (front : List ℕ) → Valid places ls → name_count places ≤ m → m ≤ 64 → forests_start (length places) ≤ length front → SameTables same nat_eq (table_of places ls) (written_table (length places) front) ls ks → HoldersWritten (length places) (records (length places) front) → HasTable (length places) m front
opened_table m front valid named few room alike holders = record {
  few_places = valid.few_places;
  few_names = few;
  room = room;
  ready = opened_ready valid m named alike;
  holes = opened_holes valid m named alike;
  holders = holders;
}

-- the parts of a memory that is opened: the words up to the marks are kept while the forests are made
pub opened_parts : (size m : ℕ) (f g a : List ℕ) → HasTable size m f → length g ≡ length f → take (marks_start size) g ≡ take (marks_start size) f → EnteredIn (written_table size f) m [] a → SlicesHold size m [] g a a
opened_parts size m f g a table long kept entered =
    let same = records_kept size f g table.room long kept in
    let made = subst (λ ws. EnteredIn (written size ws) m [] a) (sym same) entered in
    record { table = table_over (sym same) (rw long table.room) table; pairs = refl; first = made; second = made }

-- a memory with such parts is solved for no pairs
pub opened_solved : (size m : ℕ) {ws f a b r : List ℕ} → Cut size m ws f a b r → SlicesHold size m [] f a b → Solved size m [] ws
opened_solved size m parts hold = record {
  few_told = omega arith;
  ready = subst (λ T. WellFormed T m []) (sym (table_is parts)) hold.table.ready;
  filled = none_filled nat_eq _;
  words = λ some. memory_holds parts (omega arith) hold;
}

-- a table without places is like any words
pub empty_same : {L : Type 0} {same : L → L → Bool} → Sameness same → (places : List Place) (ls : List L) (ws : List ℕ) → length places ≡ 0 → SameTables same nat_eq (table_of places ls) (written_table (length places) ws) ls (range_with_len 0 (length ls))
empty_same {same = same} laws places ls ws none = written_same same laws places ls (records (length places) ws) (λ p low. absurd (omega (arith, none, low)))

-- and any memory is solved for it
pub empty_solved : {L : Type 0} {same : L → L → Bool} {places : List Place} {ls : List L} → Sameness same → Valid places ls → (m : ℕ) → name_count places ≤ m → (ws : List ℕ) → length places ≡ 0 → Solved (length places) m [] ws
empty_solved {places = places} {ls = ls} laws valid m named ws none = record {
  few_told = omega arith;
  ready = opened_ready valid m named (empty_same laws places ls ws none);
  filled = none_filled nat_eq _;
  words = λ some. absurd (omega (arith, none, some));
}

-- the names that are counted are all that there are
pub names_counted : (places : List Place) {m : ℕ} → m ≡ name_count places → name_count places ≤ m
names_counted places is = rw is (le_refl _)

-- the names of a record that fits its kind are below 64
above_few : (many : ℕ) (x : Place) → Fits many x → above_name x ≤ 64
above_few many x fits = grind (arith, nat_tests, fits.names, fits.binders)

count_few : (places : List Place) → ((p : ℕ) (x : Place) → slice_get places p ≡ Some x → above_name x ≤ 64) → name_count places ≤ 64
count_few [] few = omega arith
count_few (y ∷ ys) few = omega (arith, few 0 y refl, count_few ys (λ p. few (suc p)))

-- so those of a valid table are
pub names_few : {L : Type 0} {places : List Place} {ls : List L} → Valid places ls → name_count places ≤ 64
names_few {places = places} {ls = ls} valid = count_few places (λ p x at. above_few (length ls) x (valid.fits p x at))

-- the words that are used are within the need
pub used_needed : (places : List Place) → 0 < length places → used (length places) (name_count places) ≤ needed places
used_needed places some = grind (arith, some)

-- where the answer is a number, it is the need
pub is_needed : {L : Type 0} (places : List Place) (ls : List L) (n : ℕ) → Ok n ≡ checked places ls → n ≡ needed places
is_needed places ls n is =
    let both : Ok n ≡ Ok (needed places) = is ∙ checked_needs places ls (ap is_ok (sym is)) in
    cc

-- a valid table is accepted
pub checked_ok : {L : Type 0} {places : List Place} {ls : List L} → Valid places ls → is_ok (checked places ls) ≡ true
checked_ok {places = places} {ls = ls} valid = (checked_valid places ls).1 valid
