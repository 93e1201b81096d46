-- What the recipes of a text mean: finished recipes, where the holes are filled. Assumes nothing. (docs/RULES.md, "Notation")
use Rattle.std.specs.Prelude.{◌≡◌, ℕ, Bool, zip, ◌+◌, ◌↔◌, List, [], ◌∷◌, ◌++◌, map, take, Some, None, Option}
use Rattle.std.specs.List.{slice_get}
use Rattle.std.specs.List.Sorted.{IsStrictlyIncreasing}
use Rattle.tokens.specs.Tokens.{Token}
use Rattle.recipe.specs.Common.{In}
use Rattle.recipe.specs.Fillings.{Filling, Satisfies, filled}
use Rattle.recipe.specs.Equality.{Equal}
use Rattle.recipe.specs.Recipes.{Recipe}
use Rattle.recipe.specs.Tables.{Table, Root, scope, table_of}
use Rattle.notation.specs.declared.counts.Counts.{Counts}
use Rattle.notation.specs.Grammar.{Tree}
use Rattle.notation.specs.Reading.{Lists, ReadAs, Accepts}
use Rattle.notation.specs.Tables.{number, size, names, holes, of_each, names_of, holes_of, leaves_of, places_of}

-- the leaf that a word is read as; nil where it is read as none, which no leaf word of an accepted text is
abbrev pub leaf_read : {L : Type 0} → Option L → Recipe L
leaf_read None = Recipe.nil
leaf_read (Some l) = Recipe.leaf l

module _ {L : Type 0} (reads : List ℕ → Option L) (ts : List Tree) (θ : Filling L) where
  -- a recipe of the text ts, with its leaf words read and its holes filled; names and holes are numbered by first appearance in the text
  unfoldable pub recipe_of : Tree → Recipe L
  recipe_of Tree.nil = Recipe.nil
  recipe_of (Tree.leaf w) = leaf_read (reads w)
  recipe_of (Tree.name w) = Recipe.name (number (names_of ts) w)
  recipe_of (Tree.hole w) = θ (number (holes_of ts) w)
  recipe_of (Tree.bind w t) = Recipe.bind (number (names_of ts) w) (recipe_of t)
  recipe_of (Tree.call t u) = Recipe.call (recipe_of t) (recipe_of u)

-- the places of recipes, one after the other, where the first has the place p
unfoldable pub roots_from : ℕ → List Tree → List ℕ
roots_from p [] = []
roots_from p (t ∷ ts) = p ∷ roots_from (p + size t) ts

-- the places of the recipes of a text
abbrev pub roots_of : List Tree → List ℕ
roots_of ts = roots_from 0 ts

-- the recipes of a text, each with its place
abbrev pub rooted : List Tree → List (ℕ × Tree)
rooted ts = zip (roots_of ts) ts

-- a table means recipes: its roots are their places, which rise, and have empty scopes; the filled texts there are the recipes, in their order
pub record Means {L : Type 0} (reads : List ℕ → Option L) (ts : List Tree) (T : Table L) : Type 0 where
  pub roots : (p : ℕ) → Root T p ↔ In p (roots_of ts)
  pub order : IsStrictlyIncreasing (roots_of ts)
  pub scopes : (p : ℕ) → Root T p → scope T p ≡ []
  pub texts : (θ : Filling L) → map (filled T θ) (roots_of ts) ≡ map (recipe_of reads ts θ) ts
  -- so a filling satisfies a pair of roots exactly where it makes the two recipes equal
  pub pairs : (same : L → L → Bool) (θ : Filling L) (p q : ℕ) (t u : Tree) → In (p, t) (rooted ts) → In (q, u) (rooted ts) → Satisfies same T θ (p, q) ↔ Equal same [] (recipe_of reads ts θ t) [] (recipe_of reads ts θ u)

-- this holds of the table of recipes, over the leaves that their leaf words are read as, and any after these
abbrev pub ReadTablesMean : Type 0 → Type 0
ReadTablesMean L =
    (reads : List ℕ → Option L) (ts : List Tree) (ls more : List L) → ReadAs reads (leaves_of ts) ls → Means reads ts (table_of (places_of ts) (ls ++ more))

-- and so of the places that a reading has filled, over each list of leaves that begins with those that it has filled
abbrev pub CountedTablesMean : Type 0 → Type 0
CountedTablesMean L =
    (reads : List ℕ → Option L) (size : ℕ) (s : List Token) (old new : Lists L) (counts : Counts) (accepts : Accepts reads size s old new counts) (ls : List L) → take counts.leaves ls ≡ take counts.leaves new.leaves → Means reads accepts.trees (table_of (take counts.places new.places) ls)

-- the number of a name of recipes is the index of its spelling among their names, and so for holes; so different ones have different numbers
pub record NumbersTell (ts : List Tree) : Type 0 where
  pub names : (w : List ℕ) → In w (of_each names ts) → slice_get (names_of ts) (number (names_of ts) w) ≡ Some w
  pub holes : (w : List ℕ) → In w (of_each holes ts) → slice_get (holes_of ts) (number (holes_of ts) w) ≡ Some w
