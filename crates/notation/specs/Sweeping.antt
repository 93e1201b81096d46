-- What passes over the leaf words of a text find and write. Assumes nothing. (only private functions cite it)
use Rattle.std.specs.Prelude.{◌≡◌, ℕ, ◌≤◌, List, [], ◌∷◌, ◌++◌, length, drop, is_some, true, Some, None, Option}
use Rattle.recipe.specs.Common.{In}
use Rattle.tokens.specs.Tokens.{Token}
use Rattle.tokens.specs.Pieces.{token_of}
use Rattle.tokens.specs.declared.classes.Class.{Class}
use Rattle.tokens.specs.declared.words.Piece.{Piece}
use Rattle.notation.specs.Fitting.{leaf_words}
use Rattle.notation.specs.Reading.{ReadAs}

-- tokens without leaf words were skipped, and r are left of s
pub record Skipped (s r : List Token) : Type 0 where
  pub skipped : List Token
  pub split : s ≡ skipped ++ r
  pub none : leaf_words skipped ≡ []

-- the piece is the first leaf word among the tokens s, and r are left after it
pub record NextLeaf (text : List ℕ) (s r : List Token) (piece : Piece) : Type 0 where
  pub before : Skipped s (token_of text piece ∷ r)
  pub leaf : piece.class ≡ Class.Leaf
  pub some : piece.start ≤ piece.end
  pub inside : piece.end ≤ length text

-- the next leaf word, or there is none
abbrev pub NextLeafOrNone : List ℕ → List Token → List Token → Option Piece → Type 0
NextLeafOrNone text s r None = leaf_words s ≡ []
NextLeafOrNone text s r (Some piece) = NextLeaf text s r piece

module _ {L : Type 0} (reads : List ℕ → Option L) where
  -- the leaf words before `left` are read
  pub record Swept (s left : List Token) : Type 0 where
    pub before : List Token
    pub split : s ≡ before ++ left
    pub leaves : List L
    pub reads_as : ReadAs reads (leaf_words before) leaves

  -- the leaf words are read, all of them
  pub record AllRead (s : List Token) : Type 0 where
    pub leaves : List L
    pub reads_as : ReadAs reads (leaf_words s) leaves

  -- the token at this offset is the first leaf word that is not read
  pub record UnreadWord (s : List Token) (start : ℕ) : Type 0 where
    pub token : Token
    pub at : token.start ≡ start
    pub before : List Token
    pub after : List Token
    pub split : s ≡ before ++ token ∷ after
    pub leaf : token.class ≡ Class.Leaf
    pub unread : reads token.bytes ≡ None
    pub first : (j : Token) → In j before → j.class ≡ Class.Leaf → is_some (reads j.bytes) ≡ true

  -- all leaf words are read, or one is the first that is not
  abbrev pub AllReadOrUnread : List Token → Option ℕ → Type 0
  AllReadOrUnread s None = AllRead s
  AllReadOrUnread s (Some start) = UnreadWord s start

  -- of the leaves ls the first i are written over the list `old`, and the rest are those of the leaf words that are left
  pub record Overwriting (ls : List L) (left : List Token) (old now : List L) (i : ℕ) : Type 0 where
    pub front : List L
    pub rest : List L
    pub parts : ls ≡ front ++ rest
    pub long : length front ≡ i
    pub written : now ≡ front ++ drop i old
    pub reads_as : ReadAs reads (leaf_words left) rest
