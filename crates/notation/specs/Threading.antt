-- The table of a recipe as it is written while reading, from what is used before it. Assumes nothing. (only private functions cite it)
use Rattle.std.specs.Prelude.{ℕ, suc, ◌+◌, List, [], ◌∷◌, ◌++◌, length, take, drop}
use Rattle.recipe.specs.declared.places.Place.{Place}
use Rattle.tokens.specs.Tokens.{Token}
use Rattle.notation.specs.Grammar.{Tree, SpellsAll}
use Rattle.notation.specs.Machine.{Used, one_place, one_name, one_hole, one_leaf}
use Rattle.notation.specs.Tables.{row, number}

-- what is used after a recipe
unfoldable pub used_by : Used → Tree → Used
used_by used Tree.nil = one_place used
used_by used (Tree.leaf w) = one_leaf (one_place used)
used_by used (Tree.name w) = one_name w (one_place used)
used_by used (Tree.hole w) = one_hole w (one_place used)
used_by used (Tree.bind w t) = used_by (one_name w (one_place used)) t
used_by used (Tree.call t u) = used_by (used_by (one_place used) t) u

-- what is used after recipes
unfoldable pub used_by_all : Used → List Tree → Used
used_by_all used [] = used
used_by_all used (t ∷ ts) = used_by_all (used_by used t) ts

-- the records of a recipe; a name or hole that is not yet listed gets the next number
unfoldable pub rows : Used → Tree → List Place
rows used Tree.nil = row 0 0 0 ∷ []
rows used (Tree.leaf w) = row 1 used.leaves 0 ∷ []
rows used (Tree.name w) = row 2 (number used.names w) 0 ∷ []
rows used (Tree.hole w) = row 3 (number used.holes w) 0 ∷ []
rows used (Tree.bind w t) = row 4 (number used.names w) (suc used.places) ∷ rows (one_name w (one_place used)) t
rows used (Tree.call t u) =
    row 5 (suc used.places) ((used_by (one_place used) t).places) ∷ (rows (one_place used) t ++ rows (used_by (one_place used) t) u)

-- the records of recipes
unfoldable pub all_rows : Used → List Tree → List Place
all_rows used [] = []
all_rows used (t ∷ ts) = rows used t ++ all_rows (used_by used t) ts

-- the list xs with ys in place of what stands from the index p on
abbrev pub overwritten : {A : Type 0} → ℕ → List A → List A → List A
overwritten p ys xs = take p xs ++ (ys ++ drop (p + length ys) xs)

-- where the tokens r are some recipes, the tokens s are the recipes ts and then these
pub record Front (s : List Token) (ts : List Tree) (r : List Token) : Type 0 where
  pub on : (us : List Tree) → SpellsAll r us → SpellsAll s (ts ++ us)
