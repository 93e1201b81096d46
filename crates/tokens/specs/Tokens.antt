-- The tokens of a text. Assumes nothing. (docs/RULES.md, "Notation")
use Rattle.std.specs.Prelude.{ℕ, zero, suc, ◌-◌, Bool, if◌then◌else◌, List, [], ◌∷◌, take, codes, nat_eq}
use Rattle.std.specs.List.{starts_with}
use Rattle.tokens.specs.Words.{is_white, word_size, class_of_word}
use Rattle.tokens.specs.declared.classes.Class.{Class}
use Rattle.tokens.specs.declared.classes.Class.TheVariants.{Open, Close, Nil, Unknown}

-- a piece of a text: the offset of its first byte, its class, and its bytes
pub record Token : Type 0 where
  pub start : ℕ
  pub class : Class
  pub bytes : List ℕ

-- whether a text begins with these bytes
abbrev pub begins : List ℕ → List ℕ → Bool
begins text bytes = starts_with nat_eq text bytes

-- the class of the token that a text begins with: a parenthesis, nil, an apostrophe directly before `(` that is no nil, or a word
abbrev pub front_class : List ℕ → Class
front_class text =
    if begins text (codes "(") then Open
    else if begins text (codes ")") then Close
    else if begins text (codes "'()") then Nil
    else if begins text (codes "'(") then Unknown
    else class_of_word (take (word_size text) text)

-- how many bytes the token that a text begins with has
abbrev pub front_size : List ℕ → ℕ
front_size text =
    if begins text (codes "(") then 1
    else if begins text (codes ")") then 1
    else if begins text (codes "'()") then 3
    else word_size text

-- the token that a text begins with, where its first byte has this offset
abbrev pub front_token : ℕ → List ℕ → Token
front_token offset text = record { start = offset; class = front_class text; bytes = take (front_size text) text }

-- the tokens of a text whose first byte has this offset; its first `taken` bytes belong to a token before
unfoldable pub tokens_after : List ℕ → ℕ → ℕ → List Token
tokens_after [] taken offset = []
tokens_after (b ∷ bs) (suc taken) offset = tokens_after bs taken (suc offset)
tokens_after (b ∷ bs) zero offset =
    if is_white b then tokens_after bs 0 (suc offset)
    else front_token offset (b ∷ bs) ∷ tokens_after bs (front_size (b ∷ bs) - 1) (suc offset)

-- the tokens of a text whose first byte has this offset
abbrev pub tokens_from : ℕ → List ℕ → List Token
tokens_from offset text = tokens_after text 0 offset

-- the tokens of a whole text, in order
abbrev pub tokens : List ℕ → List Token
tokens text = tokens_from 0 text
