-- What a reader of tokens has left of a text. Assumes nothing. (docs/RULES.md, "Notation")
use Rattle.std.specs.Prelude.{ℕ, List, drop}
use Rattle.tokens.specs.Tokens.{Token, tokens_from}

-- a text, and those of its tokens that are left
pub record Reading : Type 0 where
  pub text : List ℕ
  pub left : List Token

-- the reading of a text in which the bytes before this offset are read
abbrev pub reading_at : ℕ → List ℕ → Reading
reading_at offset text = record { text = text; left = tokens_from offset (drop offset text) }
