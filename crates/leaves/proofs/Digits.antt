-- What decimal digits write, also in the words of `parse`, and the numbers of a decimal. Assumes nothing.
use Rattle.std.proofs.Common.{◌≡◌, ℕ, ◌+◌, ◌-◌, ◌*◌, ◌^◌, ◌<◌, ◌≤◌, true, ◌&&◌, List, [], ◌∷◌, ◌++◌, length, Some, Ok, Result, refl, sym, add-mul, add_assoc, mul_assoc, mul-le-mul, zero-add, arith, rules}
use Rattle.std.proofs.Math.Nat.{pow-le-pow_right, pow-succ'}
use Rattle.std.proofs.lemmas.Bool.Decides.{nat_tests}
use Rattle.std.proofs.lemmas.Fmt.{IsAscii-from_digits}
use Rattle.std.proofs.lemmas.Int.Digits.{digits_value-lt}
use Rattle.std.proofs.lemmas.Str.{IsUtf8-from_ascii}
use Rattle.std.proofs.lemmas.Str.Parse.{IsNumeralModel, numerals_by_value, parse_gives, digits_value_short}
use Rattle.std.specs.Char.{is_ascii_digit, digit_value as value_of_digit}
use Rattle.std.specs.List.{list_all}
use Rattle.std.specs.Str.{IsUtf8}
use Rattle.std.specs.Str.Parse.{digits_value, digits_value_after, AllDigits, ParsesUnsigned}
use Rattle.leaves.specs.RateReading.{is_numeral, numeral_of}
use Rattle.leaves.specs.Rates.{Numeral}
use Rattle.leaves.specs.RatesLemmas.{numeral_parts}
use Rattle.leaves.proofs.Chosen.{chosen_some}

pub digit_value : (b : ℕ) → is_ascii_digit b ≡ true → (value_of_digit b ≡ b - 48) × (value_of_digit b < 10)
digit_value b e = grind (arith, nat_tests)

pub own : IsNumeralModel (λ ds. list_all is_ascii_digit ds ≡ true) (digits_value 10)
own = numerals_by_value _ (search rules)

pub all_digits : (ds : List ℕ) → list_all is_ascii_digit ds ≡ true → AllDigits 10 ds
all_digits ds e = own.to ds e

pub value_fits : (n : ℕ) (ds : List ℕ) → AllDigits 10 ds → length ds ≤ n → digits_value 10 ds < 10 ^ n
value_fits n ds all short = omega (arith, digits_value-lt 10 ds all, pow-le-pow_right {n = 10} (omega arith) short)

-- the numerals on both sides of a slash or a point
pub numeral_pair : (most : ℕ) (n m : List ℕ) → (is_numeral 10 n && is_numeral most m) ≡ true → Numeral 10 n × Numeral most m
numeral_pair most n m e = (numeral_parts 10 n (grind (arith, nat_tests)), numeral_parts most m (grind (arith, nat_tests)))

-- a numeral is a text
pub numeral_text : (most : ℕ) (ds : List ℕ) → is_numeral most ds ≡ true → IsUtf8 ds
numeral_text most ds e = IsUtf8-from_ascii ds (IsAscii-from_digits ds (own.to ds (numeral_parts most ds e).all))

numeral_short : (most : ℕ) (ds : List ℕ) → is_numeral most ds ≡ true → digits_value 10 ds < 10 ^ most
numeral_short most ds e =
    let n = numeral_parts most ds e in
    digits_value_short own ds most n.all n.short

-- `parse` reads the number that it writes
pub numeral_parsed : {E : Type 0} (most : ℕ) (ds : List ℕ) (r : Result ℕ E) → ParsesUnsigned 64 10 ds r → is_numeral most ds ≡ true → most ≤ 18 → r ≡ Ok (digits_value 10 ds)
numeral_parsed most ds r read e short =
    let n = numeral_parts most ds e in
    parse_gives own 64 ds r read n.all n.some (omega (arith, digits_value_short own ds 18 n.all (omega (arith, n.short))))

-- digits after other digits
after : (n : ℕ) (ds : List ℕ) → digits_value_after 10 n ds ≡ n * 10 ^ length ds + digits_value 10 ds
after n [] = omega arith
after n (d ∷ ds) =
    let v = value_of_digit d in
    let p = 10 ^ length ds in
    rw (after (n * 10 + v) ds, after (0 + v) ds, pow-succ' 10 (length ds), add-mul (n * 10) v p, mul_assoc n 10 p, zero-add v) (add_assoc (n * (10 * p)) (v * p) (digits_value 10 ds))

pub append : (n : ℕ) (cs ds : List ℕ) → digits_value_after 10 n (cs ++ ds) ≡ digits_value_after 10 (digits_value_after 10 n cs) ds
append n [] ds = refl
append n (c ∷ cs) ds = append (n * 10 + value_of_digit c) cs ds

append_value : (n : ℕ) (cs ds : List ℕ) → digits_value_after 10 n (cs ++ ds) ≡ digits_value_after 10 n cs * 10 ^ length ds + digits_value 10 ds
append_value n cs ds = rw (append n cs ds) (after (digits_value_after 10 n cs) ds)

pub value_append : (cs ds : List ℕ) → digits_value 10 (cs ++ ds) ≡ digits_value 10 cs * 10 ^ length ds + digits_value 10 ds
value_append cs ds = append_value 0 cs ds

-- the numeral ds writes n
pub record Writes (most : ℕ) (ds : List ℕ) (n : ℕ) : Type 0 where
  pub passes : is_numeral most ds ≡ true
  pub is : digits_value 10 ds ≡ n
  pub short : length ds ≤ most
  pub fits : n < 10 ^ most

pub writes : (most : ℕ) (ds : List ℕ) (n : ℕ) → Some n ≡ numeral_of most ds → Writes most ds n
writes most ds n e =
    let gave = chosen_some (is_numeral most ds) (digits_value 10 ds) n (sym e) in
    record { passes = gave.0; is = gave.1; short = (numeral_parts most ds gave.0).short; fits = omega (arith, gave.1, numeral_short most ds gave.0) }

-- the numbers of a decimal stay far below 2 ^ 64
pub scaled : (n f : ℕ) → n < 10 ^ 10 → f ≤ 6 → n * 10 ^ f ≤ 10 ^ 16
scaled n f small short =
    let high : n ≤ 10 ^ 10 = omega arith in
    mul-le-mul high (pow-le-pow_right {n = 10} (omega arith) short)

pub decimal_small : (whole decimals : List ℕ) → is_numeral 10 whole ≡ true → is_numeral 6 decimals ≡ true → (digits_value 10 whole * 10 ^ length decimals ≤ 10 ^ 16) × (digits_value 10 decimals < 10 ^ 6)
decimal_small whole decimals w d =
    (scaled (digits_value 10 whole) (length decimals) (numeral_short 10 whole w) (numeral_parts 6 decimals d).short, numeral_short 6 decimals d)
