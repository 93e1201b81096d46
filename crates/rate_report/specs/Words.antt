-- The words of a text. Assumes nothing. (docs/RULES.md, "Reports on rates")
use Rattle.std.specs.Prelude.{ℕ, Bool, true, cond, ◌||◌, List, [], ◌∷◌, ◌==◌}

-- white space: space, tab, line feed, carriage return
abbrev pub white : ℕ → Bool
white b = b == 32 || b == 9 || b == 10 || b == 13

-- no word goes on here: at the end of a text, or before white space
abbrev pub ended : List ℕ → Bool
ended [] = true
ended (b ∷ bs) = white b

-- the first word with a byte more in front
abbrev pub extended : ℕ → List (List ℕ) → List (List ℕ)
extended b [] = (b ∷ []) ∷ []
extended b (w ∷ ws) = (b ∷ w) ∷ ws

-- the words of a text, in order: its longest runs of bytes that are no white space
unfoldable pub words : List ℕ → List (List ℕ)
words [] = []
words (b ∷ bs) = cond (white b) (words bs) (cond (ended bs) ((b ∷ []) ∷ words bs) (extended b (words bs)))
