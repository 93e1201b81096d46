-- The names of the binders of linked binds, joined in a forest over names. Assumes nothing. (docs/RULES.md, "Forests over names")
use Rattle.std.specs.Prelude.{◌≡◌, ℕ, List, Some}
use Rattle.recipe.specs.Common.{In}
use Rattle.recipe.specs.Fillings.{Pair}
use Rattle.recipe.specs.Links.{Linked}
use Rattle.recipe.specs.Recipes.{Part}
use Rattle.recipe.specs.Tables.{Table, parts}
use Rattle.closure.specs.Names.{Node}
use Rattle.forest.specs.Exact.{Joined}
use Rattle.nodes.specs.NameClasses.{NumbersJoined, name_parts, node_number}
use Rattle.nodes.specs.NameSteps.{PairsMore}

-- the names of two binders, below them, where the places are linked
pub data TwoBinders {L : Type 0} (T : Table L) (told : List Pair) : Node → Node → Type 0 where
  two_binders : {p q a b : ℕ} (y z : Part ℕ) → Linked T told p q → In y (parts (T.form p)) → In z (parts (T.form q)) → y.step ≡ z.step → y.under ≡ Some a → z.under ≡ Some b → TwoBinders T told (Node.name y.at a) (Node.name z.at b)

-- some pairs more, of numbers of joined names, which join the names of all such binders: so whatever else was done, they are done too
pub record TiesBinders {L : Type 0} (T : Table L) (m : ℕ) (told : List Pair) (old new : List ℕ) : Type 0 where
  pub pairs : List (ℕ × ℕ)
  pub more : PairsMore pairs old new
  pub joined : (u v : ℕ) → In (u, v) pairs → NumbersJoined T m told u v
  pub tied : (a b : Node) → TwoBinders T told a b → Joined (name_parts T m) pairs (node_number m a) (node_number m b)
