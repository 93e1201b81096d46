-- What is taken off the front of a text while recipes are read. Assumes nothing. (only private functions cite it)
use Rattle.std.specs.Prelude.{◌≡◌, ◌≢◌, ℕ, ◌≤◌, ◌<◌, List, [], ◌∷◌, length, Ok, Err, Result}
use Rattle.recipe.specs.Packing.{Spelling}
use Rattle.recipe.specs.declared.places.Place.{Place}
use Rattle.recipe.specs.declared.refusals.Refusal.{Refusal}
use Rattle.tokens.specs.Tokens.{Token}
use Rattle.tokens.specs.Pieces.{token_of}
use Rattle.tokens.specs.declared.classes.Class.{Class}
use Rattle.tokens.specs.declared.words.Piece.{Piece}
use Rattle.notation.specs.declared.lent_lists.LentLists.{LentLists}
use Rattle.notation.specs.Grammar.{Tree, Spells}
use Rattle.notation.specs.Fitting.{Room}
use Rattle.notation.specs.LentLists.{Stands}
use Rattle.notation.specs.Tables.{number}
use Rattle.notation.specs.Machine.{Awaited, Used, one_name, wrong, Turns, Stops}
use Rattle.notation.specs.Threading.{used_by, rows, overwritten}

-- a name or a hole is a short spelling
pub record Short (k : Token) : Type 0 where
  pub name : k.class ≡ Class.Name → Spelling k.bytes
  pub hole : k.class ≡ Class.Hole → Spelling k.bytes

-- the names and holes among the tokens are short spellings
abbrev pub AllShort : List Token → Type 0
AllShort [] = Unit {0}
AllShort (k ∷ s) = Short k × AllShort s

-- the piece was taken off the tokens s of a text, and r are left
pub record TookPiece (text : List ℕ) (s r : List Token) (piece : Piece) : Type 0 where
  pub left : s ≡ token_of text piece ∷ r
  pub some : piece.start < piece.end
  pub inside : piece.end ≤ length text

-- a piece was taken, or the text ends
abbrev pub TookPieceOrEnds : List ℕ → List Token → List Token → Result Piece Refusal → Type 0
TookPieceOrEnds text s r (Ok piece) = TookPiece text s r piece
TookPieceOrEnds text s r (Err why) = (s ≡ []) × (why ≡ Refusal.Unfinished (length text))

-- the tokens of a text of `size` bytes end, or begin with one of another class
pub data Unexpected (size : ℕ) (class : Class) : List Token → Refusal → Type 0 where
  ends : Unexpected size class [] (Refusal.Unfinished size)
  other : {k : Token} {s : List Token} → k.class ≢ class → Unexpected size class (k ∷ s) (wrong k.class k.start)

-- the piece has the class that had to come
pub record TookClass (class : Class) (text : List ℕ) (s r : List Token) (piece : Piece) : Type 0 where
  pub took : TookPiece text s r piece
  pub class_is : piece.class ≡ class

-- a piece of the class was taken, or none stands there
abbrev pub TookClassOrNone : Class → List ℕ → List Token → List Token → Result Piece Refusal → Type 0
TookClassOrNone class text s r (Ok piece) = TookClass class text s r piece
TookClassOrNone class text s r (Err why) = Unexpected (length text) class s why

module _ (most : Room) (size d : ℕ) (used : Used) (s r : List Token) (table : List Place) (f : LentLists) where
  -- the tokens s are a binder list and then r; its name got the number n
  pub record TookBinder (n : ℕ) : Type 0 where
    pub opening : Token
    pub name : Token
    pub shut : Token
    pub left : s ≡ opening ∷ name ∷ shut ∷ r
    pub opens : opening.class ≡ Class.Open
    pub names : name.class ≡ Class.Name
    pub shuts : shut.class ≡ Class.Close
    pub number_is : n ≡ number used.names name.bytes
    pub turns : Turns most size (Awaited.binder_open ∷ Awaited.binder_name ∷ Awaited.binder_close ∷ []) [] d d used (one_name name.bytes used) s r
    pub kept : f.places.now ≡ table
    pub stands : Stands most (one_name name.bytes used) f
    pub short : AllShort r

  -- a binder list was taken, or none stands there
  abbrev pub TookBinderOrNone : Result ℕ Refusal → Type 0
  TookBinderOrNone (Ok n) = TookBinder n
  TookBinderOrNone (Err why) = Stops most size (Awaited.binder_open ∷ Awaited.binder_name ∷ Awaited.binder_close ∷ []) d used s why

  -- the tokens s are a recipe and then r, and the lists have what the recipe adds; its first place is n
  pub record TookRecipe (n : ℕ) : Type 0 where
    pub tree : Tree
    pub spells : Spells s tree r
    pub turns : Turns most size (Awaited.recipe ∷ []) [] d d used (used_by used tree) s r
    pub number_is : n ≡ used.places
    pub written : f.places.now ≡ overwritten used.places (rows used tree) table
    pub stands : Stands most (used_by used tree) f
    pub short : AllShort r

  -- a recipe was taken, or none stands there that fits
  abbrev pub TookRecipeOrNone : Result ℕ Refusal → Type 0
  TookRecipeOrNone (Ok n) = TookRecipe n
  TookRecipeOrNone (Err why) = Stops most size (Awaited.recipe ∷ []) d used s why

-- at any room and use of the lists, the piece and the tokens s after it are a recipe and then r, or none that fits
abbrev pub TakesRecipe : List ℕ → ℕ → Piece → List Token → List Token → LentLists → LentLists → Result ℕ Refusal → Type 0
TakesRecipe text d first s r old new answer =
    (most : Room) (used : Used) → d ≤ 128 → Stands most used old → AllShort (token_of text first ∷ s) → TookRecipeOrNone most (length text) d used (token_of text first ∷ s) r old.places.now new answer
