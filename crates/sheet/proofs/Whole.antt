-- A memory and its parts: what stands before the forests, the forests, the forests again, and the rest. Assumes nothing.
use Rattle.std.proofs.Common.{◌≡◌, ℕ, ◌+◌, ◌-◌, ◌*◌, ◌<◌, ◌≤◌, List, [], ◌++◌, length, drop, take, slice_range, sym, ap, ◌∙◌, subst, refl, arith, length-append}
use lib.Seq.{drop_at, drop-drop, take_at, take-append-le}
use Rattle.recipe.specs.Fillings.{Pair}
use Rattle.closure.specs.Decision.{HolesBelow, WellFormed}
use Rattle.nodes.specs.HoldersWritten.{HoldersWritten}
use Rattle.nodes.specs.Records.{written}
use Rattle.sheet.specs.Layout.{KeepsPast, first_copy, forests_length, forests_start, marks_start, records, second_copy, used}
use Rattle.sheet.specs.Solved.{EnteredIn, HasTable, Holds, SlicesHold, written_table}
use Rattle.sheet.proofs.Ranges.{range_front}

-- the parts of a memory
pub record Cut (size m : ℕ) (ws f a b r : List ℕ) : Type 0 where
  pub joined : ws ≡ f ++ (a ++ (b ++ r))
  pub front_long : length f ≡ forests_start size
  pub first_long : length a ≡ forests_length size m
  pub second_long : length b ≡ forests_length size m

-- the table that other words have too
pub table_over : {size m : ℕ} {f g : List ℕ} → records size f ≡ records size g → forests_start size ≤ length g → HasTable size m f → HasTable size m g
table_over {size = size} {m = m} same room table = record {
  few_places = table.few_places;
  few_names = table.few_names;
  room = room;
  ready = subst (λ ws. WellFormed (written size ws) m []) same table.ready;
  holes = subst (λ ws. HolesBelow (written size ws)) same table.holes;
  holders = subst (HoldersWritten size) same table.holders;
}

-- the records, where the words up to their end are the same
pub same_records : (size : ℕ) (f g : List ℕ) → marks_start size ≤ length f → marks_start size ≤ length g → take (marks_start size) f ≡ take (marks_start size) g → records size f ≡ records size g
same_records size f g long too same =
    sym (range_front 1024 (marks_start size) (marks_start size) f (omega arith) (omega arith) long)
    ∙ ap (λ xs. slice_range xs 1024 (marks_start size)) same
    ∙ range_front 1024 (marks_start size) (marks_start size) g (omega arith) (omega arith) too

module _ {size m : ℕ} {ws f a b r : List ℕ} (parts : Cut size m ws f a b r) where
  rest_is : drop (forests_start size) ws ≡ a ++ (b ++ r)
  rest_is = ap (drop (forests_start size)) parts.joined ∙ drop_at f (a ++ (b ++ r)) (forests_start size) parts.front_long

  front_is : take (forests_start size) ws ≡ f
  front_is = ap (take (forests_start size)) parts.joined ∙ take_at f (a ++ (b ++ r)) (forests_start size) parts.front_long

  pub first_is : first_copy size m ws ≡ a
  first_is = ap (take (forests_length size m)) rest_is ∙ take_at a (b ++ r) (forests_length size m) parts.first_long

  others_is : drop (forests_length size m) (drop (forests_start size) ws) ≡ b ++ r
  others_is = ap (drop (forests_length size m)) rest_is ∙ drop_at a (b ++ r) (forests_length size m) parts.first_long

  pub second_is : second_copy size m ws ≡ b
  second_is = ap (take (forests_length size m)) others_is ∙ take_at b r (forests_length size m) parts.second_long

  -- the words past all that is used
  pub past_is : drop (used size m) ws ≡ r
  past_is =
      sym (drop-drop (forests_length size m + forests_length size m) (forests_start size) ws)
      ∙ sym (drop-drop (forests_length size m) (forests_length size m) (drop (forests_start size) ws))
      ∙ ap (drop (forests_length size m)) others_is
      ∙ drop_at b r (forests_length size m) parts.second_long

  long_is : length ws ≡ forests_start size + (forests_length size m + (forests_length size m + length r))
  long_is =
      ap length parts.joined
      ∙ length-append f (a ++ (b ++ r))
      ∙ ap (λ n. length f + n) (length-append a (b ++ r) ∙ ap (λ n. length a + n) (length-append b r))
      ∙ rw (parts.front_long, parts.first_long, parts.second_long) refl

  pub room_is : used size m ≤ length ws
  room_is = omega (arith, long_is)

  pub records_is : records size ws ≡ records size f
  records_is = sym (range_front 1024 (marks_start size) (forests_start size) ws (omega arith) (omega arith) (omega (arith, room_is))) ∙ ap (records size) front_is

  pub table_is : written_table size ws ≡ written_table size f
  table_is = ap (written size) records_is

  -- the first words, as they stand before the forests
  front_words : (n : ℕ) → n ≤ forests_start size → take n ws ≡ take n f
  front_words n low = ap (take n) parts.joined ∙ take-append-le n f (a ++ (b ++ r)) (rw parts.front_long low)

  -- what the memory holds its parts hold, and the other way round
  pub slices_hold : {told : List Pair} → length told ≤ 512 → Holds size m told ws → SlicesHold size m told f a b
  slices_hold {told = told} few holds = record {
    table = table_over records_is (rw parts.front_long (omega arith)) holds.table;
    pairs = sym (front_words (2 * length told) (omega (arith, few))) ∙ holds.pairs;
    first = subst (λ T. EnteredIn T m told a) table_is (subst (EnteredIn (written_table size ws) m told) first_is holds.first);
    second = subst (λ T. EnteredIn T m told b) table_is (subst (EnteredIn (written_table size ws) m told) second_is holds.second);
  }

  pub memory_holds : {told : List Pair} → length told ≤ 512 → SlicesHold size m told f a b → Holds size m told ws
  memory_holds {told = told} few hold = record {
    room = room_is;
    table = table_over (sym records_is) (omega (arith, room_is)) hold.table;
    pairs = front_words (2 * length told) (omega (arith, few)) ∙ hold.pairs;
    first = subst (λ T. EnteredIn T m told (first_copy size m ws)) (sym table_is) (subst (EnteredIn (written_table size f) m told) (sym first_is) hold.first);
    second = subst (λ T. EnteredIn T m told (second_copy size m ws)) (sym table_is) (subst (EnteredIn (written_table size f) m told) (sym second_is) hold.second);
  }

-- where the words past all that is used are as before, they are so from any later word on
pub keeps_past : (size m : ℕ) (old new : List ℕ) → 0 < size → drop (used size m) new ≡ drop (used size m) old → KeepsPast size m old new
keeps_past size m old new some same n past =
    let split : used size m + (n - used size m) ≡ n = omega (arith, past some) in
    subst (λ k. drop k new ≡ drop k old) split (sym (drop-drop (n - used size m) (used size m) new) ∙ ap (drop (n - used size m)) same ∙ drop-drop (n - used size m) (used size m) old)
