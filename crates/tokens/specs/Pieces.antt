-- The token that a piece of a text is. Assumes nothing. (docs/RULES.md, "Notation")
use Rattle.std.specs.Prelude.{ℕ, List, slice_range}
use Rattle.tokens.specs.Tokens.{Token}
use Rattle.tokens.specs.declared.words.Piece.{Piece}

-- the token of which the piece gives the class and the place in the text
abbrev pub token_of : List ℕ → Piece → Token
token_of text piece = record { start = piece.start; class = piece.class; bytes = slice_range text piece.start piece.end }
