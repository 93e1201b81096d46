-- The report on how a text is read, byte by byte. Assumes nothing. (docs/RULES.md, "Reports on places")
use Rattle.std.specs.Prelude.{◌≡◌, ℕ, List, [], ◌∷◌, ◌++◌, length, take, replicate, Some, None, Option, Ok, Err, Result, codes, decimal}
use Rattle.std.specs.List.{slice_get, flat_map, enumerate_from}
use Rattle.recipe.specs.Packing.{spelling_text}
use Rattle.recipe.specs.Refusals.{refusal_text}
use Rattle.recipe.specs.declared.places.Kind.{Kind}
use Rattle.recipe.specs.declared.places.Place.{Place}
use Rattle.recipe.specs.declared.refusals.Refusal.{Refusal}
use Rattle.leaves.specs.declared.symbol.Symbol.{Symbol}
use Rattle.leaves.specs.Printing.{symbol_text}
use Rattle.leaves.specs.Symbols.{symbol_of}
use Rattle.tokens.specs.Tokens.{tokens}
use Rattle.notation.specs.Tables.{row}
use Rattle.notation.specs.Reading.{Lists, Reads}
use Rattle.notation.specs.declared.counts.Counts.{Counts}

-- a spelling of a list after a space, or nothing where the list has none
abbrev pub word_text : Option ℕ → List ℕ
word_text None = []
word_text (Some n) = codes " " ++ spelling_text n

-- a symbol of a list after a space, or nothing where the list has none
abbrev pub leaf_text : Option Symbol → List ℕ
leaf_text None = []
leaf_text (Some s) = codes " " ++ symbol_text s

-- the kind that has the number in records, if one has
abbrev pub kind_of : ℕ → Option Kind
kind_of n = slice_get (Kind.Nil ∷ Kind.Leaf ∷ Kind.Name ∷ Kind.Hole ∷ Kind.Bind ∷ Kind.Call ∷ []) n

-- the name of a kind, and the numbers a and b as far as the kind has them
abbrev pub kind_text : ℕ → ℕ → Option Kind → List ℕ
kind_text a b None = codes "unknown"
kind_text a b (Some Kind.Nil) = codes "nil"
kind_text a b (Some Kind.Leaf) = codes "leaf " ++ decimal a
kind_text a b (Some Kind.Name) = codes "name " ++ decimal a
kind_text a b (Some Kind.Hole) = codes "hole " ++ decimal a
kind_text a b (Some Kind.Bind) = codes "bind " ++ decimal a ++ codes " " ++ decimal b
kind_text a b (Some Kind.Call) = codes "call " ++ decimal a ++ codes " " ++ decimal b

-- the spelling of the leaf, name or hole that has the number a; of a bind that of its name
abbrev pub spelled : Lists Symbol → ℕ → Option Kind → List ℕ
spelled lists a None = []
spelled lists a (Some Kind.Nil) = []
spelled lists a (Some Kind.Leaf) = leaf_text (slice_get lists.leaves a)
spelled lists a (Some Kind.Name) = word_text (slice_get lists.names a)
spelled lists a (Some Kind.Hole) = word_text (slice_get lists.holes a)
spelled lists a (Some Kind.Bind) = word_text (slice_get lists.names a)
spelled lists a (Some Kind.Call) = []

-- the line of a place: its number, its kind with its numbers, and its spelling
abbrev pub line_of : Lists Symbol → ℕ × Place → List ℕ
line_of lists (p, x) =
    decimal p ++ codes " " ++ kind_text x.a x.b (kind_of x.kind) ++ spelled lists x.a (kind_of x.kind) ++ codes "\n"

-- the lines of places, the first with the number p
abbrev pub lines_of : Lists Symbol → ℕ → List Place → List ℕ
lines_of lists p xs = flat_map (line_of lists) (enumerate_from p xs)

-- the report on a reading that leaves these lists and answers so
abbrev pub report_of : Lists Symbol → Result Counts Refusal → List ℕ
report_of lists (Ok counts) = lines_of lists 0 (take counts.places lists.places)
report_of lists (Err r) = codes "text " ++ refusal_text r ++ codes "\n"

-- the lists before a text is read: 64 places, 16 names, 64 holes and 64 leaves, with zeros alone
abbrev pub first_lists : Lists Symbol
first_lists =
    record {
      places = replicate 64 (row 0 0 0);
      names = replicate 16 0;
      holes = replicate 64 0;
      leaves = replicate 64 (record { packed = 0 });
    }

-- out is the report on the text: the one on the lists that reading the text leaves, and on the answer that it gives
pub record Reports (text out : List ℕ) : Type 0 where
  pub lists : Lists Symbol
  pub answer : Result Counts Refusal
  pub read : Reads symbol_of (length text) (tokens text) first_lists lists answer
  pub bytes : out ≡ report_of lists answer
