-- The report on the rates of a text, byte by byte. Assumes nothing. (docs/RULES.md, "Reports on rates")
use Rattle.std.specs.Prelude.{◌≡◌, ℕ, suc, ◌+◌, ◌<◌, Bool, true, false, cond, ◌↔◌, List, [], ◌∷◌, ◌++◌, length, is_some, Some, None, codes, decimal, Option, ◌==◌, nat_lt, slice_index_or}
use Rattle.std.specs.Option.{option_to_list}
use Rattle.recipe.specs.Numbering.{number_of}
use Rattle.leaves.specs.RateReading.{rate_of}
use Rattle.leaves.specs.Rates.{SpelledBy, same_rate}
use Rattle.leaves.specs.declared.rate.Rate.{Rate}
use Rattle.rate_report.specs.Limit.{Keeps, FirstWords, kept}
use Rattle.rate_report.specs.Words.{words}

-- the rates that the words spell, in order
unfoldable pub rates_of : List (List ℕ) → List Rate
rates_of [] = []
rates_of (w ∷ ws) = option_to_list (rate_of w) ++ rates_of ws

-- the number of a rate that was read, if one was
abbrev pub number_in : List Rate → Option Rate → Option ℕ
number_in rates None = None
number_in rates (Some x) = number_of same_rate rates x

-- whether the number of a rate is its own index, so that it is the first of its kind
abbrev pub is_own : ℕ → Option ℕ → Bool
is_own i None = false
is_own i (Some n) = n == i

-- how many of the rates xs, which stand in the list from the index i, are the first of their kind
unfoldable pub firsts : List Rate → ℕ → List Rate → ℕ
firsts rates i [] = 0
firsts rates i (x ∷ xs) = cond (is_own i (number_of same_rate rates x)) 1 0 + firsts rates (suc i) xs

-- how many different rates there are: those that are the first of their kind
abbrev pub different : List Rate → ℕ
different rates = firsts rates 0 rates

-- what is said of a word: the number of its rate, or that it spells none
abbrev pub verdict : Option ℕ → List ℕ
verdict None = codes " no rate"
verdict (Some n) = codes " rate " ++ decimal n

-- the line of the word w with the index i, of which the number of its rate is known
abbrev pub line_with : Option ℕ → ℕ → List ℕ → List ℕ
line_with number i w = decimal i ++ codes " " ++ w ++ verdict number ++ codes "\n"

-- the line of the word with the index i
abbrev pub line : List Rate → ℕ → List ℕ → List ℕ
line rates i w = line_with (number_in rates (rate_of w)) i w

-- the lines of words, the first with the index i
unfoldable pub lines : List Rate → ℕ → List (List ℕ) → List ℕ
lines rates i [] = []
lines rates i (w ∷ ws) = line rates i w ++ lines rates (suc i) ws

-- what is said of an input above the limit
abbrev pub warning : ℕ → List ℕ → List ℕ
warning limit input =
    cond (nat_lt limit (length input)) (codes "too much input: only the whole words of the first " ++ decimal limit ++ codes " bytes are listed\n") []

-- the last line, for so many words, rates and different rates
abbrev pub summary_with : ℕ → ℕ → ℕ → List ℕ
summary_with word_count rate_count different_count =
    codes "words " ++ decimal word_count ++ codes ", rates " ++ decimal rate_count ++ codes ", different rates " ++ decimal different_count ++ codes "\n"

-- the last line, for so many words and these rates
abbrev pub summary : ℕ → List Rate → List ℕ
summary count rates = summary_with count (length rates) (different rates)

-- the report on an input, of which at most limit bytes are listed
unfoldable pub report_of : ℕ → List ℕ → List ℕ
report_of limit input =
    let ws = words (kept limit input) in
    lines (rates_of ws) 0 ws ++ warning limit input ++ summary (length ws) (rates_of ws)

-- the number of the word with the index k
abbrev pub word_number : List (List ℕ) → ℕ → Option ℕ
word_number ws k = number_in (rates_of ws) (rate_of (slice_index_or ws k []))

-- what the numbers of words tell: a word has one exactly when it spells a rate, and two words that spell rates have one number exactly when the rates are the same
pub record WordsTell (ws : List (List ℕ)) : Type 0 where
  pub rates : (k : ℕ) → k < length ws → is_some (word_number ws k) ≡ is_some (rate_of (slice_index_or ws k []))
  pub same : (j k : ℕ) (x y : Rate) → j < length ws → k < length ws → rate_of (slice_index_or ws j []) ≡ Some x → rate_of (slice_index_or ws k []) ≡ Some y → (word_number ws j ≡ word_number ws k) ↔ (same_rate x y ≡ true)

-- out is the report on the input
pub record Reports (limit : ℕ) (input out : List ℕ) : Type 0 where
  -- byte by byte
  pub bytes : out ≡ report_of limit input
  -- on the longest front of the input within the limit past which no word goes on
  pub front : Keeps limit input (kept limit input)
  -- so that its words are the first words of the input
  pub first : FirstWords input (kept limit input)
  -- each read as the grammar of rates spells it
  pub spelled : (word : List ℕ) → SpelledBy word (rate_of word)
  -- and numbered so that the numbers tell which rates are the same
  pub tell : WordsTell (words (kept limit input))
