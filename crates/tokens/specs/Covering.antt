-- What the tokens of a text are, without a way to find them. Assumes nothing. (docs/RULES.md, "Notation")
use Rattle.std.specs.Prelude.{◌≡◌, ◌↔◌, ℕ, ◌+◌, ◌<◌, true, false, ◌&&◌, if◌then◌else◌, List, [], ◌∷◌, ◌++◌, length, bytes_eq, codes}
use Rattle.std.specs.List.{list_all}
use Rattle.tokens.specs.Words.{is_white, in_word, word_size, class_of_word}
use Rattle.tokens.specs.Tokens.{Token, begins, tokens}
use Rattle.tokens.specs.declared.classes.Class.{Class}
use Rattle.tokens.specs.declared.classes.Class.TheVariants.{Open, Close, Nil, Unknown}

-- the class of a word before this rest of a text: a lone apostrophe directly before a parenthesis has none
abbrev pub class_before : List ℕ → List ℕ → Class
class_before rest word = if bytes_eq word (codes "'") && begins rest (codes "(") then Unknown else class_of_word word

-- the bytes before this rest are a whole word of the class, and with the rest they do not begin with nil
pub record IsWord (class : Class) (bytes rest : List ℕ) : Type 0 where
  pub inside : list_all in_word bytes ≡ true
  pub ended : word_size rest ≡ 0
  pub not_nil : begins (bytes ++ rest) (codes "'()") ≡ false
  pub classed : class ≡ class_before rest bytes

-- the bytes before this rest are a token of the class
abbrev pub IsSpelled : Class → List ℕ → List ℕ → Type 0
IsSpelled Open bytes rest = bytes ≡ codes "("
IsSpelled Close bytes rest = bytes ≡ codes ")"
IsSpelled Nil bytes rest = bytes ≡ codes "'()"
IsSpelled class bytes rest = IsWord class bytes rest

-- the text is white space, the bytes of the token, and a rest of which `Later` holds from the offset after the token; the text's first byte has the offset given
pub record CoveredBy (Later : ℕ → List ℕ → Type 0) (offset : ℕ) (text : List ℕ) (token : Token) : Type 0 where
  pub white : List ℕ
  pub rest : List ℕ
  pub parts : text ≡ white ++ token.bytes ++ rest
  pub blank : list_all is_white white ≡ true
  pub start : token.start ≡ offset + length white
  pub some : 0 < length token.bytes
  pub spelled : IsSpelled token.class token.bytes rest
  pub later : Later (token.start + length token.bytes) rest

-- the text is the bytes of the tokens, in order, with white space alone before, between and after them
abbrev pub Covered : List Token → ℕ → List ℕ → Type 0
Covered [] offset text = list_all is_white text ≡ true
Covered (token ∷ more) offset text = CoveredBy (Covered more) offset text token

-- the tokens of a text are the one list of tokens that covers it
abbrev pub TokensExact : List ℕ → Type 0
TokensExact text = (ts : List Token) → Covered ts 0 text ↔ (ts ≡ tokens text)
