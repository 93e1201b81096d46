-- The parts of a memory with one told pair more, and with none. Assumes nothing.
use Rattle.std.proofs.Common.{◌≡◌, ℕ, ◌+◌, ◌*◌, ◌-◌, ◌<◌, ◌≤◌, List, [], ◌∷◌, ◌++◌, length, drop, take, true, rules, Ok, Err, Result, is_ok, sym, ap, ◌∙◌, subst, refl, arith, length-append}
use lib.Seq.{take-take}
use mathlib.Core.List.{append-nil}
use Rattle.recipe.specs.Fillings.{Pair}
use Rattle.recipe.specs.Histories.{accepted_pair}
use Rattle.recipe.specs.declared.refusals.Refusal.{Refusal}
use Rattle.sheet.specs.Layout.{forests_start, marks_start, records}
use Rattle.sheet.specs.Sheet.{pair_words}
use Rattle.sheet.specs.Solved.{EnteredIn, HasTable, SlicesHold, written_table}
use Rattle.nodes.specs.Records.{written}
use Rattle.sheet.proofs.Whole.{same_records, table_over}

-- the words of one pair more
pub words_more : (told : List Pair) (p q : ℕ) → pair_words (told ++ ((p, q) ∷ [])) ≡ pair_words told ++ (p ∷ q ∷ [])
words_more [] p q = refl
words_more ((s, t) ∷ told) p q = ap (λ ws. s ∷ t ∷ ws) (words_more told p q)

-- with one pair more the list is one longer
pub one_longer : (told : List Pair) (w : Pair) → length (told ++ (w ∷ [])) ≡ length told + 1
one_longer told w = length-append told (w ∷ [])

-- an answer that accepts, and one that refuses
pub accepts : (r : Result (Unit {0}) Refusal) → is_ok r ≡ true → r ≡ Ok tt
accepts (Ok u) is = refl
accepts (Err e) is = search rules

pub refuses : (told : List Pair) (p q : ℕ) (r : Result (Unit {0}) Refusal) → (is_ok r ≡ true → ⊥) → told ++ accepted_pair p q r ≡ told
refuses told p q (Ok u) fails = absurd (fails refl)
refuses told p q (Err e) fails = append-nil told

module _ (size : ℕ) (f g : List ℕ) (room : forests_start size ≤ length f) where
  -- the records, where the words up to their end are kept
  pub records_kept : length g ≡ length f → take (marks_start size) g ≡ take (marks_start size) f → records size g ≡ records size f
  records_kept long kept = same_records size g f (omega (arith, room, long)) (omega (arith, room)) kept

  -- the records after a pair is written before them
  pub records_written : (h : List ℕ) → length g ≡ length f → take (marks_start size) g ≡ take (marks_start size) f → drop 1024 h ≡ drop 1024 g → records size h ≡ records size f
  records_written h long kept after = ap (take (marks_start size - 1024)) after ∙ records_kept long kept

module _ {size m : ℕ} {told : List Pair} {f a b : List ℕ} (hold : SlicesHold size m told f a b) (g : List ℕ) (long : length g ≡ length f) (kept : take (marks_start size) g ≡ take (marks_start size) f) where
  -- the first words, where all words up to the marks are kept
  first_words : (n : ℕ) → n ≤ marks_start size → take n g ≡ take n f
  first_words n low = sym (take-take n (marks_start size) g low) ∙ ap (take n) kept ∙ take-take n (marks_start size) f low

  -- nothing told: the second copy is the one that holds
  pub as_before : length told ≤ 512 → SlicesHold size m told g b b
  as_before few =
      let same = records_kept size f g hold.table.room long kept in
      record {
        table = table_over (sym same) (rw long hold.table.room) hold.table;
        pairs = first_words (2 * length told) (omega (arith, few)) ∙ hold.pairs;
        first = subst (λ ws. EnteredIn (written size ws) m told b) (sym same) hold.second;
        second = subst (λ ws. EnteredIn (written size ws) m told b) (sym same) hold.second;
      }

  module _ (p q : ℕ) (h : List ℕ) (tall : length h ≡ length g) (after : drop 1024 h ≡ drop 1024 g) where
    -- the table after the pair is written
    pub table_written : HasTable size m h
    table_written = table_over (sym (records_written size f g hold.table.room h long kept after)) (rw (tall, long) hold.table.room) hold.table

    -- one pair more
    pub one_more : {k c d : List ℕ} → length told < 512 → take (2 * length told + 2) h ≡ take (2 * length told) g ++ (p ∷ q ∷ []) → length k ≡ length h → take (marks_start size) k ≡ take (marks_start size) h → EnteredIn (written_table size f) m (told ++ ((p, q) ∷ [])) c → EnteredIn (written_table size h) m (told ++ ((p, q) ∷ [])) d → SlicesHold size m (told ++ ((p, q) ∷ [])) k c d
    one_more {k = k} {c = c} {d = d} few pair large still first second =
        let before = records_written size f g hold.table.room h long kept after in
        let same = records_kept size h k table_written.room large still in
        let many : 2 * length (told ++ ((p, q) ∷ [])) ≡ 2 * length told + 2 = omega (arith, one_longer told (p, q)) in
        record {
          table = table_over (sym same) (rw large table_written.room) table_written;
          pairs = ap (λ n. take n k) many ∙ sym (take-take (2 * length told + 2) (marks_start size) k (omega (arith, few))) ∙ ap (take (2 * length told + 2)) still ∙ take-take (2 * length told + 2) (marks_start size) h (omega (arith, few)) ∙ pair ∙ ap (λ ws. ws ++ (p ∷ q ∷ [])) (first_words (2 * length told) (omega (arith, few)) ∙ hold.pairs) ∙ sym (words_more told p q);
          first = subst (λ ws. EnteredIn (written size ws) m (told ++ ((p, q) ∷ [])) c) (sym (same ∙ before)) first;
          second = subst (λ ws. EnteredIn (written size ws) m (told ++ ((p, q) ∷ [])) d) (sym same) second;
        }
