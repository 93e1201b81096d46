-- What is listed of an input that is too long. Assumes nothing. (docs/RULES.md, "Reports on rates")
use Rattle.std.specs.Prelude.{◌≡◌, ℕ, zero, suc, ◌<◌, ◌≤◌, Bool, true, false, cond, ◌||◌, List, length, take, drop, nat_le, slice_index}
use Rattle.rate_report.specs.Words.{white, ended, words}

-- the place n is the start of the text, or follows white space
abbrev pub after_white : List ℕ → ℕ → Bool
after_white s zero = true
after_white s (suc n) = white (slice_index s n)

-- no word goes on past the place n
abbrev pub breaks : List ℕ → ℕ → Bool
breaks s n = ended (drop n s) || after_white s n

-- t is the longest front of s, of at most limit bytes, past which no word goes on
pub record Keeps (limit : ℕ) (s t : List ℕ) : Type 0 where
  pub size : ℕ
  pub front : t ≡ take size s
  pub within : size ≤ limit
  pub whole : breaks s size ≡ true
  pub longest : (n : ℕ) → size < n → n ≤ limit → breaks s n ≡ false

-- the words of t are the first words of s
abbrev pub FirstWords : List ℕ → List ℕ → Type 0
FirstWords s t = (m : ℕ) × (words t ≡ take m (words s))

-- the last place, n or before it, that is the start of the text or follows white space
unfoldable pub last_break : List ℕ → ℕ → ℕ
last_break s zero = zero
last_break s (suc n) = cond (white (slice_index s n)) (suc n) (last_break s n)

-- the front of an input that is listed, as a function: `Keeps` says what it is
unfoldable pub kept : ℕ → List ℕ → List ℕ
kept limit s = cond (nat_le (length s) limit) s (take (cond (white (slice_index s limit)) limit (last_break s limit)) s)
