-- Ranges of lists that are made of parts. Assumes nothing.
use Rattle.std.proofs.Common.{◌≡◌, ℕ, ◌*◌, ◌-◌, ◌≤◌, List, ◌++◌, length, take, slice_range, rules, arith, ap, ◌∙◌}
use Rattle.std.proofs.lemmas.List.{places, same_lists}
use lib.Seq.{take-take, take_at, drop_at}
use Rattle.sheet.specs.Layout.{forests_start, marks_start, records}

-- a range is the range of a front that ends with it or later
pub range_front : {A : Type 0} (from to n : ℕ) (xs : List A) → from ≤ to → to ≤ n → n ≤ length xs → slice_range (take n xs) from to ≡ slice_range xs from to
range_front from to n xs ordered within long = same_lists _ _ (search (rules, places)) (λ k d h. grind (arith, places))

-- the front of a front
pub front_front : {A : Type 0} (n m : ℕ) (xs : List A) → n ≤ m → take n (take m xs) ≡ take n xs
front_front n m xs h = take-take n m xs h

-- the records, as what stands before the marks has them
pub records_before : (size mid : ℕ) (before ws : List ℕ) → mid ≡ marks_start size → forests_start size ≤ length ws → before ≡ take mid ws → records size before ≡ records size ws
records_before size mid before ws is room front =
    ap (records size) (front ∙ ap (λ n. take n ws) is) ∙ range_front 1024 (marks_start size) (marks_start size) ws (omega arith) (omega arith) (omega (arith, room))

-- the words that stand where the records do
pub records_at : (size : ℕ) (before words after : List ℕ) → length before ≡ 1024 → length words ≡ 8 * size → records size (before ++ (words ++ after)) ≡ words
records_at size before words after first long =
    ap (take (marks_start size - 1024)) (drop_at before (words ++ after) 1024 first) ∙ take_at words after (marks_start size - 1024) (omega (arith, long))
