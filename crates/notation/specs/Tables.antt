-- The table of recipes, from the recipes alone. Assumes nothing. (docs/RULES.md, "Notation")
use Rattle.std.specs.Prelude.{ℕ, suc, ◌+◌, ◌-◌, List, [], ◌∷◌, ◌++◌, length, map, replicate, bytes_eq}
use Rattle.std.specs.List.{position_or_len}
use Rattle.recipe.specs.Packing.{packed}
use Rattle.recipe.specs.declared.places.Place.{Place}
use Rattle.notation.specs.Grammar.{Tree}
use Rattle.notation.specs.Fitting.{firsts}

-- the record of a place
abbrev pub row : ℕ → ℕ → ℕ → Place
row kind a b = record { kind = kind; a = a; b = b }

-- how many places a recipe has
unfoldable pub size : Tree → ℕ
size Tree.nil = 1
size (Tree.leaf w) = 1
size (Tree.name w) = 1
size (Tree.hole w) = 1
size (Tree.bind w t) = suc (size t)
size (Tree.call t u) = suc (size t + size u)

-- the names of a recipe as they are written, left to right, those of binders too
unfoldable pub names : Tree → List (List ℕ)
names Tree.nil = []
names (Tree.leaf w) = []
names (Tree.name w) = w ∷ []
names (Tree.hole w) = []
names (Tree.bind w t) = w ∷ names t
names (Tree.call t u) = names t ++ names u

-- the holes of a recipe, left to right
unfoldable pub holes : Tree → List (List ℕ)
holes Tree.nil = []
holes (Tree.leaf w) = []
holes (Tree.name w) = []
holes (Tree.hole w) = w ∷ []
holes (Tree.bind w t) = holes t
holes (Tree.call t u) = holes t ++ holes u

-- the leaf words of a recipe, left to right
unfoldable pub leaves : Tree → List (List ℕ)
leaves Tree.nil = []
leaves (Tree.leaf w) = w ∷ []
leaves (Tree.name w) = []
leaves (Tree.hole w) = []
leaves (Tree.bind w t) = leaves t
leaves (Tree.call t u) = leaves t ++ leaves u

-- the first index at which the list has the spelling, or its length where it has none
abbrev pub number : List (List ℕ) → List ℕ → ℕ
number ws w = position_or_len (bytes_eq w) ws

module _ (ns hs : List (List ℕ)) where
  -- the records of a recipe whose first place is p and whose first leaf is the leaf l; names and holes are numbered by the lists ns and hs
  unfoldable pub rows_from : ℕ → ℕ → Tree → List Place
  rows_from p l Tree.nil = row 0 0 0 ∷ []
  rows_from p l (Tree.leaf w) = row 1 l 0 ∷ []
  rows_from p l (Tree.name w) = row 2 (number ns w) 0 ∷ []
  rows_from p l (Tree.hole w) = row 3 (number hs w) 0 ∷ []
  rows_from p l (Tree.bind w t) = row 4 (number ns w) (suc p) ∷ rows_from (suc p) l t
  rows_from p l (Tree.call t u) =
      row 5 (suc p) (suc p + size t) ∷ (rows_from (suc p) l t ++ rows_from (suc p + size t) (l + length (leaves t)) u)

  -- the records of recipes, one after the other
  unfoldable pub all_rows_from : ℕ → ℕ → List Tree → List Place
  all_rows_from p l [] = []
  all_rows_from p l (t ∷ ts) = rows_from p l t ++ all_rows_from (p + size t) (l + length (leaves t)) ts

-- what f gives of each recipe, one after the other
unfoldable pub of_each : {A : Type 0} → (Tree → List A) → List Tree → List A
of_each f [] = []
of_each f (t ∷ ts) = f t ++ of_each f ts

-- the different names of recipes, by first appearance
abbrev pub names_of : List Tree → List (List ℕ)
names_of ts = firsts (of_each names ts)

-- the different holes of recipes, by first appearance
abbrev pub holes_of : List Tree → List (List ℕ)
holes_of ts = firsts (of_each holes ts)

-- the leaf words of recipes
abbrev pub leaves_of : List Tree → List (List ℕ)
leaves_of ts = of_each leaves ts

-- the records of the places of recipes
abbrev pub places_of : List Tree → List Place
places_of ts = all_rows_from (names_of ts) (holes_of ts) 0 0 ts

-- spellings as numbers
abbrev pub numbers_of : List (List ℕ) → List ℕ
numbers_of ws = map packed ws

-- the list xs, followed by as many z as make it n long
abbrev pub padded : {A : Type 0} → ℕ → A → List A → List A
padded n z xs = xs ++ replicate (n - length xs) z
