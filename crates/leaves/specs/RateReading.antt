-- The rate that a word spells, as a function of the word. `read` promises that it is the one that `SpellsRate` gives, so a reader may pass this file over. Assumes nothing. (docs/RULES.md, "Rates")
use Rattle.std.specs.Prelude.{ℕ, ◌^◌, Bool, cond, ◌&&◌, List, [], ◌∷◌, ◌++◌, length, take, drop, Some, None, Option, ◌==◌, nat_le}
use Rattle.std.specs.Str.Parse.{digits_value}
use Rattle.std.specs.Char.{is_ascii_digit}
use Rattle.std.specs.List.{list_all, prefix_len}
use Rattle.leaves.specs.Rates.{largest}
use Rattle.leaves.specs.declared.rate.Rate.{Rate}

-- whether ds are one to most decimal digits
abbrev pub is_numeral : ℕ → List ℕ → Bool
is_numeral most ds = (nat_le 1 (length ds) && nat_le (length ds) most) && list_all is_ascii_digit ds

-- the number that a numeral writes
abbrev pub numeral_of : ℕ → List ℕ → Option ℕ
numeral_of most ds = cond (is_numeral most ds) (Some (digits_value 10 ds)) None

-- n over d, unreduced, where neither is too large and d is not 0
abbrev pub ratio : ℕ → ℕ → Option Rate
ratio n d = cond ((nat_le n largest && nat_le 1 d) && nat_le d largest) (Some (record { numerator = n; denominator = d })) None

-- the spelling n: a whole number
abbrev pub whole_rate : List ℕ → Option Rate
whole_rate n = cond (is_numeral 10 n) (ratio (digits_value 10 n) 1) None

-- the spelling n/d: a fraction
abbrev pub fraction_rate : List ℕ → List ℕ → Option Rate
fraction_rate n d = cond (is_numeral 10 n && is_numeral 10 d) (ratio (digits_value 10 n) (digits_value 10 d)) None

-- the spelling n.f: a decimal
abbrev pub decimal_rate : List ℕ → List ℕ → Option Rate
decimal_rate n f = cond (is_numeral 10 n && is_numeral 6 f) (ratio (digits_value 10 (n ++ f)) (10 ^ length f)) None

-- the digits n and what follows them: nothing, a slash (47) and d, or a point (46) and f
unfoldable pub rate_after : List ℕ → List ℕ → Option Rate
rate_after n [] = whole_rate n
rate_after n (b ∷ m) = cond (b == 47) (fraction_rate n m) (cond (b == 46) (decimal_rate n m) None)

-- the rate that a word spells: its first digits, and what follows them
unfoldable pub rate_of : List ℕ → Option Rate
rate_of word = rate_after (take (prefix_len is_ascii_digit word) word) (drop (prefix_len is_ascii_digit word) word)
