-- Fields and words seen as a sheet: pairs read off words, forms as a table, and one tell more. Assumes nothing.
use Rattle.std.proofs.Common.{◌≡◌, ℕ, suc, ◌*◌, ◌<◌, false, is_ok, List, [], ◌∷◌, ◌++◌, length, take, drop, Ok, Err, Result, nat_eq, slice_index_or, sym, ap, ◌∙◌, subst, refl, inl, inr, arith, lt-ltb, le-ltb, ◌≤◌}
use Rattle.std.proofs.Math.Path.{fun_ext}
use Rattle.std.proofs.lemmas.Bool.{cases_lt, cond-false, cond-true}
use Rattle.std.proofs.lemmas.List.FromFn.{get_or-map-range_with_len, length-map-range_with_len}
use Rattle.std.proofs.lemmas.List.{get_or_past, length-take}
use Rattle.std.specs.List.{range_with_len}
use Rattle.recipe.specs.Checking.{words_for}
use Rattle.recipe.specs.Fillings.{Pair, Satisfiable}
use Rattle.recipe.specs.Histories.{accepted_pair}
use Rattle.recipe.specs.Tables.{Form, Table}
use Rattle.recipe.specs.declared.refusals.Refusal.{Refusal}
use Rattle.nodes.specs.Records.{written_form}
use Rattle.sheet.specs.Layout.{KeepsPast, records}
use Rattle.sheet.specs.Sheet.{Sheet, numbers, pair_words, table}
use Rattle.sheet.specs.Solved.{Solved, written_table}
use Rattle.sheet.specs.Views.{Sound, forms_in, pairs_in, sheet_in, words_of}

-- the pairs whose words come first
pub pairs_read : (told : List Pair) (ws : List ℕ) → take (2 * length told) ws ≡ pair_words told → pairs_in (length told) ws ≡ told
unfolding pairs_in
pairs_read [] ws is = refl
pairs_read ((p, q) ∷ told) ws is =
    let two : 2 * suc (length told) ≡ suc (suc (2 * length told)) = omega arith in
    read_on p q told ws (subst (λ n. take n ws ≡ p ∷ q ∷ pair_words told) two is) (pairs_read told)
  where
    read_on : (p q : ℕ) (told : List Pair) (ws : List ℕ) → take (suc (suc (2 * length told))) ws ≡ p ∷ q ∷ pair_words told → ((rest : List ℕ) → take (2 * length told) rest ≡ pair_words told → pairs_in (length told) rest ≡ told) → pairs_in (suc (length told)) ws ≡ (p, q) ∷ told
    read_on p q told [] is more = cc
    read_on p q told (u ∷ []) is more = cc
    read_on p q told (u ∷ v ∷ ws) is more =
        let first : u ≡ p = cc in
        let second : v ≡ q = cc in
        let rest : take (2 * length told) ws ≡ pair_words told = cc in
        let after : pairs_in (length told) ws ≡ told = more ws rest in
        cc

-- two words a pair
pub words_twice : (told : List Pair) → length (pair_words told) ≡ 2 * length told
words_twice [] = refl
words_twice ((p, q) ∷ told) = omega (arith, words_twice told)

-- the words of the pairs of a solved memory come first
pub words_first : {size m : ℕ} {ws : List ℕ} (told : List Pair) → Solved size m told ws → take (2 * length told) ws ≡ pair_words told
words_first [] solved = refl
words_first {size = size} ((p, q) ∷ told) solved =
    let inside = solved.ready.told p q (inl refl) in
    let some : 0 < size = omega (arith, inside.0) in
    (solved.words some).pairs

-- so they are read off its words
pub pairs_solved : {size m : ℕ} {ws : List ℕ} (told : List Pair) → Solved size m told ws → pairs_in (length told) ws ≡ told
pairs_solved {ws = ws} told solved = pairs_read told ws (words_first told solved)

-- the forms of the records are a table
pub table_in : (size m leaves standing : ℕ) (opened : Result (Unit {0}) Refusal) (ws : List ℕ) → table (sheet_in size m leaves standing opened ws) ≡ written_table size ws
table_in size m leaves standing opened ws =
    let long : length (forms_in size ws) ≡ size = length-map-range_with_len (written_form (records size ws)) 0 size in
    let at : (p : ℕ) → slice_index_or (forms_in size ws) p Form.nil ≡ (written_table size ws).form p = λ p. elim (cases_lt p size) [
      | inl low ↦ get_or-map-range_with_len (written_form (records size ws)) 0 size p p Form.nil low (omega arith) ∙ sym (cond-true _ _ Form.nil (lt-ltb p size low))
      | inr high ↦ get_or_past (forms_in size ws) p Form.nil (rw long high) ∙ sym (cond-false _ (written_form (records size ws) p) Form.nil (le-ltb p size high))
    ] in
    let forms : (λ (p : ℕ). slice_index_or (forms_in size ws) p Form.nil) ≡ (written_table size ws).form = fun_ext at in
    rw (long, forms) refl

-- no word past those that a sheet needs is written
pub beyond_kept : (size m : ℕ) (opened : Result (Unit {0}) Refusal) (old new : List ℕ) → (is_ok opened ≡ false → size ≡ 0) → KeepsPast size m old new → drop (words_of opened size m) new ≡ drop (words_of opened size m) old
beyond_kept size m (Ok u) old new empty kept = kept (words_for size m) (λ some. grind (arith, some))
beyond_kept size m (Err e) old new empty kept = kept 0 (λ some. absurd (omega (arith, empty refl, some)))

-- one tell more
module _ {size m standing : ℕ} {opened : Result (Unit {0}) Refusal} {old new : List ℕ} (sound : Sound size m standing opened old) (p q : ℕ) (r : Result (Unit {0}) Refusal) (next : ℕ) (many : length (pairs_in standing old ++ accepted_pair p q r) ≡ next) (solved : Solved size m (pairs_in standing old ++ accepted_pair p q r) new) where
  read_more : pairs_in next new ≡ pairs_in standing old ++ accepted_pair p q r
  read_more = subst (λ n. pairs_in n new ≡ pairs_in standing old ++ accepted_pair p q r) many (pairs_solved (pairs_in standing old ++ accepted_pair p q r) solved)

  pub sound_more : Sound size m next opened new
  sound_more = record {
    solved = subst (λ told. Solved size m told new) (sym read_more) solved;
    counted = ap length read_more ∙ many;
    empty = sound.empty;
  }

  pub sheet_more : (leaves : ℕ) → records size new ≡ records size old → KeepsPast size m old new → {s : Sheet} → sheet_in size m leaves standing opened old ≡ s → sheet_in size m leaves next opened new ≡ record s { told = s.told ++ accepted_pair p q r }
  sheet_more leaves same kept is =
      subst (λ s. sheet_in size m leaves next opened new ≡ record s { told = s.told ++ accepted_pair p q r }) is
      (rw (same, read_more, beyond_kept size m opened old new sound.empty kept) refl)

-- the words of a sound sheet's pairs come first
pub first_pairs : {size m standing : ℕ} {opened : Result (Unit {0}) Refusal} {ws : List ℕ} → Sound size m standing opened ws → take (2 * standing) ws ≡ pair_words (pairs_in standing ws)
first_pairs {standing = standing} {ws = ws} sound = subst (λ n. take (2 * n) ws ≡ pair_words (pairs_in standing ws)) sound.counted (words_first (pairs_in standing ws) sound.solved)

-- so the memory has them
pub words_within : {size m standing : ℕ} {opened : Result (Unit {0}) Refusal} {ws : List ℕ} → Sound size m standing opened ws → 2 * standing ≤ length ws
words_within {standing = standing} {ws = ws} sound =
    omega (arith, ap length (first_pairs sound), words_twice (pairs_in standing ws), sound.counted, length-take (2 * standing) ws)

-- what is so of the table, the numbers of leaves and the pairs of the words is so of the sheet
pub seen_in : (size m leaves standing : ℕ) (opened : Result (Unit {0}) Refusal) (ws : List ℕ) {s : Sheet} (Says : Table ℕ → List ℕ → List Pair → Type 0) → sheet_in size m leaves standing opened ws ≡ s → Says (written_table size ws) (range_with_len 0 leaves) (pairs_in standing ws) → Says (table s) (numbers s) s.told
seen_in size m leaves standing opened ws Says is said =
    subst (λ s. Says (table s) (numbers s) s.told) is (subst (λ T. Says T (range_with_len 0 leaves) (pairs_in standing ws)) (sym (table_in size m leaves standing opened ws)) said)

-- so the accepted tells of a sheet have a filling in common
pub filled_in : (size m leaves standing : ℕ) (opened : Result (Unit {0}) Refusal) (ws : List ℕ) → Sound size m standing opened ws → {s : Sheet} → sheet_in size m leaves standing opened ws ≡ s → Satisfiable nat_eq (table s) s.told
filled_in size m leaves standing opened ws sound is =
    seen_in size m leaves standing opened ws (λ T ks told. Satisfiable nat_eq T told) is sound.solved.filled
