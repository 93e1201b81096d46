-- Names at places, and which of them a list of pairs joins. Assumes nothing. (docs/RULES.md, "Joined names")
use Rattle.std.specs.Prelude.{◌≡◌, ℕ, ◌<◌, ◌≢◌, List, Some}
use Rattle.recipe.specs.Common.{In}
use Rattle.recipe.specs.Fillings.{Pair}
use Rattle.recipe.specs.Links.{Linked}
use Rattle.recipe.specs.Recipes.{Part}
use Rattle.recipe.specs.Scopes.{NameEqual}
use Rattle.recipe.specs.Tables.{Form, Table, parts, scope}
use Rattle.closure.specs.Closures.{Closure}

-- a name in the text at a place, or nowhere: what is joined with it is free in no filled text of its place
pub data Node : Type 0 where
  nowhere : Node
  name : ℕ → ℕ → Node

-- what the pairs, the holes and the binders say of names below m
pub data NamesHeld {L : Type 0} (T : Table L) (m : ℕ) (pairs : List Pair) : Node → Node → Type 0 where
  -- a name of one place of a pair, and the name of the other that is equal to it
  told : {p q x y : ℕ} → In (p, q) pairs → x < m → y < m → NameEqual (scope T p) x (scope T q) y → NamesHeld T m pairs (Node.name p x) (Node.name q y)
  -- a name of one place of a pair to which no name of the other is equal
  no_second : {p x : ℕ} (q : ℕ) → In (p, q) pairs → x < m → ((y : ℕ) → NameEqual (scope T p) x (scope T q) y → ⊥) → NamesHeld T m pairs (Node.name p x) Node.nowhere
  no_first : {q y : ℕ} (p : ℕ) → In (p, q) pairs → y < m → ((x : ℕ) → NameEqual (scope T p) x (scope T q) y → ⊥) → NamesHeld T m pairs (Node.name q y) Node.nowhere
  -- one name at two places of one hole
  one_hole : {p q h x : ℕ} → T.form p ≡ Form.hole h → T.form q ≡ Form.hole h → x < m → NamesHeld T m pairs (Node.name p x) (Node.name q x)
  -- the name of a bind is not free at the bind
  own_binder : {p a c : ℕ} → T.form p ≡ Form.bind a c → NamesHeld T m pairs (Node.name p a) Node.nowhere
  -- the names of two binders, below them, where the places are linked
  two_binders : {p q a b : ℕ} (y z : Part ℕ) → Linked T pairs p q → In y (parts (T.form p)) → In z (parts (T.form q)) → y.step ≡ z.step → y.under ≡ Some a → z.under ≡ Some b → NamesHeld T m pairs (Node.name y.at a) (Node.name z.at b)

-- a name has its parts at the parts of its place, but for one that stands under a binder of that name; each part of nowhere is nowhere
pub data NamePart {L : Type 0} (T : Table L) : Node → ℕ → Node → Type 0 where
  nowhere : {s : ℕ} → NamePart T Node.nowhere s Node.nowhere
  name : {p x : ℕ} (y : Part ℕ) → In y (parts (T.form p)) → y.under ≢ Some x → NamePart T (Node.name p x) y.step (Node.name y.at x)

-- two nodes are joined: by the smallest equivalence that holds these pairs, and carries joined names to their parts
abbrev pub Joined : {L : Type 0} → Table L → ℕ → List Pair → Node → Node → Type 0
Joined T m pairs = Closure (NamesHeld T m pairs) (NamePart T)
