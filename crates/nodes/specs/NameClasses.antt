-- A forest over the names of a table: two names have one root exactly if the told pairs join them. Assumes nothing. (docs/RULES.md, "Forests over names")
use Rattle.std.specs.Prelude.{◌≡◌, ℕ, zero, suc, ◌+◌, ◌*◌, ◌/◌, ◌%◌, ◌<◌, Bool, false, cond, ◌↔◌, List, length, Some, None, Option, ◌==◌}
use Rattle.recipe.specs.Common.{In}
use Rattle.recipe.specs.Fillings.{Pair}
use Rattle.recipe.specs.Labels.{part_at}
use Rattle.recipe.specs.Recipes.{Part}
use Rattle.recipe.specs.Tables.{Table, parts}
use Rattle.closure.specs.Names.{Node, NamesHeld, Joined}
use Rattle.forest.specs.Exact as forest
use Rattle.forest.specs.Rows.{root}

-- the node of a name at a place, with m names for each place: node 0 is nowhere
abbrev pub node_number : ℕ → Node → ℕ
node_number m Node.nowhere = 0
node_number m (Node.name p x) = suc (p * m + x)

-- nowhere, and the names below m at the places of the table
pub data InTable {L : Type 0} (T : Table L) (m : ℕ) : Node → Type 0 where
  nowhere : InTable T m Node.nowhere
  name : {p x : ℕ} → p < T.size → x < m → InTable T m (Node.name p x)

-- whether a binder is of the name x
abbrev pub binds : ℕ → Option ℕ → Bool
binds x None = false
binds x (Some a) = a == x

-- the node of the name x at a part, or none where its binder is of that name
abbrev pub name_at : ℕ → ℕ → Option (Part ℕ) → Option ℕ
name_at m x None = None
name_at m x (Some y) = cond (binds x y.under) None (Some (suc (y.at * m + x)))

-- the part of a name at a step, as a side of its node; each part of nowhere is nowhere
abbrev pub name_parts : {L : Type 0} → Table L → ℕ → forest.Parts
name_parts T m zero step = Some 0
name_parts T m (suc k) step = name_at m (k % m) (part_at step (parts (T.form (k / m))))

-- two numbers are of nodes in the table that are joined
pub record NumbersJoined {L : Type 0} (T : Table L) (m : ℕ) (told : List Pair) (u v : ℕ) : Type 0 where
  pub first : Node
  pub second : Node
  pub first_in : InTable T m first
  pub second_in : InTable T m second
  pub first_is : node_number m first ≡ u
  pub second_is : node_number m second ≡ v
  pub joined : Joined T m told first second

-- the forest has a node for each name at each place and one for nowhere, and is exact for some pairs that are joined, which join what is done so far
pub record NamesSome {L : Type 0} (T : Table L) (m : ℕ) (told : List Pair) (Done : Node → Node → Type 0) (rows : List ℕ) : Type 0 where
  pub long : length rows ≡ 4 * suc (m * T.size)
  pub pairs : List (ℕ × ℕ)
  pub exact : forest.Exact (name_parts T m) pairs rows
  pub held : (u v : ℕ) → In (u, v) pairs → NumbersJoined T m told u v
  pub done : (a b : Node) → Done a b → forest.Joined (name_parts T m) pairs (node_number m a) (node_number m b)

-- all that the pairs, the holes and the binders say of names is done
abbrev pub NamesJoined : {L : Type 0} → Table L → ℕ → List Pair → List ℕ → Type 0
NamesJoined T m told = NamesSome T m told (NamesHeld T m told)

-- so two nodes of the table have one root exactly if they are joined
abbrev pub RootsJoin : {L : Type 0} → Table L → ℕ → List Pair → List ℕ → Type 0
RootsJoin T m told rows =
    (a b : Node) → InTable T m a → InTable T m b → (root rows (node_number m a) ≡ root rows (node_number m b)) ↔ Joined T m told a b

-- they do so for some table of this size, and some told pairs
abbrev pub SomeRootsJoin : ℕ → ℕ → List ℕ → Type 0
SomeRootsJoin size m rows =
    (T : Table ℕ) × (told : List Pair) × (T.size ≡ size) × RootsJoin T m told rows
