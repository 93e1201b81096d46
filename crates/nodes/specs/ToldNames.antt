-- What one told pair of places says of names, joined in a forest over names. Assumes nothing. (docs/RULES.md, "Forests over names")
use Rattle.std.specs.Prelude.{◌≡◌, ℕ, ◌<◌, List}
use Rattle.recipe.specs.Common.{In}
use Rattle.recipe.specs.Scopes.{NameEqual}
use Rattle.recipe.specs.Tables.{Table, scope}
use Rattle.closure.specs.Names.{Node}
use Rattle.nodes.specs.NameClasses.{node_number}
use Rattle.nodes.specs.NameSteps.{PairsMore}

-- what one told pair says of names below m
pub data HeldByPair {L : Type 0} (T : Table L) (m p q : ℕ) : Node → Node → Type 0 where
  told : {x y : ℕ} → x < m → y < m → NameEqual (scope T p) x (scope T q) y → HeldByPair T m p q (Node.name p x) (Node.name q y)
  no_second : {x : ℕ} → x < m → ((y : ℕ) → NameEqual (scope T p) x (scope T q) y → ⊥) → HeldByPair T m p q (Node.name p x) Node.nowhere
  no_first : {y : ℕ} → y < m → ((x : ℕ) → NameEqual (scope T p) x (scope T q) y → ⊥) → HeldByPair T m p q (Node.name q y) Node.nowhere

-- two numbers are of nodes of which the pair says that they are joined
pub record NumbersSaid {L : Type 0} (T : Table L) (m p q u v : ℕ) : Type 0 where
  pub first : Node
  pub second : Node
  pub first_is : node_number m first ≡ u
  pub second_is : node_number m second ≡ v
  pub said : HeldByPair T m p q first second

-- pairs more that the pair says, among them all that is done
pub record SaidMore {L : Type 0} (T : Table L) (m p q : ℕ) (Done : Node → Node → Type 0) (old new : List ℕ) : Type 0 where
  pub pairs : List (ℕ × ℕ)
  pub more : PairsMore pairs old new
  pub said : (u v : ℕ) → In (u, v) pairs → NumbersSaid T m p q u v
  pub done : (a b : Node) → Done a b → In (node_number m a, node_number m b) pairs

-- one tell more: all that the pair says of names is joined, and nothing else
abbrev pub TellsNames : {L : Type 0} → Table L → ℕ → ℕ → ℕ → List ℕ → List ℕ → Type 0
TellsNames T m p q = SaidMore T m p q (HeldByPair T m p q)

-- what the pair says of the names below n of its first place (only private functions cite this and the next)
pub data SaidFirst {L : Type 0} (T : Table L) (p q n : ℕ) : Node → Node → Type 0 where
  equal : {x y : ℕ} → x < n → NameEqual (scope T p) x (scope T q) y → SaidFirst T p q n (Node.name p x) (Node.name q y)
  none : {x : ℕ} → x < n → ((y : ℕ) → NameEqual (scope T p) x (scope T q) y → ⊥) → SaidFirst T p q n (Node.name p x) Node.nowhere

-- the names below n of its second place to which no name of the first is equal, and nowhere
pub data SaidSecond {L : Type 0} (T : Table L) (p q n : ℕ) : Node → Node → Type 0 where
  none : {y : ℕ} → y < n → ((x : ℕ) → NameEqual (scope T p) x (scope T q) y → ⊥) → SaidSecond T p q n (Node.name q y) Node.nowhere
