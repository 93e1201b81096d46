-- How rates are spelled, and when two are the same. Assumes nothing. (docs/RULES.md, "Rates")
use Rattle.std.specs.Prelude.{◌≡◌, ℕ, ◌*◌, ◌^◌, ◌≤◌, Bool, true, cond, ◌&&◌, ◌||◌, ◌↔◌, List, ◌∷◌, ◌++◌, length, Some, Option, codes, ◌==◌}
use Rattle.std.specs.Str.Parse.{digits_value}
use Rattle.std.specs.Char.{is_ascii_digit}
use Rattle.std.specs.List.{list_all}
use Rattle.leaves.specs.declared.rate.Rate.{Rate}

-- one to most decimal digits
pub record Numeral (most : ℕ) (ds : List ℕ) : Type 0 where
  pub some : 1 ≤ length ds
  pub short : length ds ≤ most
  pub all : list_all is_ascii_digit ds ≡ true

-- a word that is n, n/d (47 is the slash) or n.f (46 is the point), with its numerator and denominator; of n.f these are the digits joined, and 10 to the number of digits of f
pub data Form : List ℕ → ℕ → ℕ → Type 0 where
  whole : {n : List ℕ} → Numeral 10 n → Form n (digits_value 10 n) 1
  fraction : {n d : List ℕ} → Numeral 10 n → Numeral 10 d → Form (n ++ 47 ∷ d) (digits_value 10 n) (digits_value 10 d)
  decimal : {n f : List ℕ} → Numeral 10 n → Numeral 6 f → Form (n ++ 46 ∷ f) (digits_value 10 (n ++ f)) (10 ^ length f)

-- the largest numerator and denominator of a rate that is read
abbrev pub largest : ℕ
largest = 2147483647

-- the word spells the rate x, unreduced: it has one of the forms, with numbers that are not too large, and the denominator is not 0
pub record SpellsRate (word : List ℕ) (x : Rate) : Type 0 where
  pub form : Form word x.numerator x.denominator
  pub top : x.numerator ≤ largest
  pub nonzero : 1 ≤ x.denominator
  pub bottom : x.denominator ≤ largest

-- r is the rate that the word spells, and none where it spells none
abbrev pub SpelledBy : List ℕ → Option Rate → Type 0
SpelledBy word r = (x : Rate) → (r ≡ Some x) ↔ SpellsRate word x

-- two rates are the same when their cross products are equal; one with denominator 0 only as its equal
abbrev pub same_rate : Rate → Rate → Bool
same_rate x y =
    cond (x.denominator == 0 || y.denominator == 0) (x.numerator == y.numerator && x.denominator == y.denominator) (x.numerator * y.denominator == y.numerator * x.denominator)

-- a word of 21 bytes that spells a rate
abbrev pub longest_rate : List ℕ
longest_rate = codes "2147483647/2147483647"
