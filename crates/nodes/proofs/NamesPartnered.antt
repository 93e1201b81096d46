-- The lowest name of one place that is joined with a name of another, from names with one root. Assumes nothing.
use Rattle.std.proofs.Common.{◌≡◌, ℕ, ◌<◌, List, Some, None, Option, sym, inl, inr}
use Rattle.std.proofs.lemmas.Bool.{cases_lt}
use Rattle.recipe.specs.Fillings.{Pair}
use Rattle.recipe.specs.Tables.{Table}
use Rattle.closure.specs.Names.{Joined, Node}
use Rattle.nodes.specs.JoinedNames.{FindsJoined}
use Rattle.nodes.specs.MisnamedRoots.{name_root}
use Rattle.nodes.specs.NameClasses.{InTable, RootsJoin}
use Rattle.nodes.specs.Searches.{LowestBelow}

module _ {L : Type 0} (T : Table L) (m : ℕ) (told : List Pair) (names_rows : List ℕ) (roots : RootsJoin T m told names_rows) (p x q : ℕ) (first : p < T.size) (second : q < T.size) (low : x < m) where
  -- names of the two places with one root are joined, and the other way round
  one_root : (y : ℕ) → y < m → name_root names_rows m q y ≡ name_root names_rows m p x → Joined T m told (Node.name p x) (Node.name q y)
  one_root y less same = (roots (Node.name p x) (Node.name q y) (InTable.name first low) (InTable.name second less)).0 (sym same)

  root_same : (y : ℕ) → y < m → Joined T m told (Node.name p x) (Node.name q y) → name_root names_rows m q y ≡ name_root names_rows m p x
  root_same y less j = sym ((roots (Node.name p x) (Node.name q y) (InTable.name first low) (InTable.name second less)).1 j)

  pub joined_found : (r : Option ℕ) → LowestBelow m (λ y. name_root names_rows m q y ≡ name_root names_rows m p x) r → FindsJoined T m told p x q r
  joined_found None none = λ y less j. none y less (root_same y less j)
  joined_found (Some y) (less, one, lower) = record {
    has = (less, one_root y less one);
    lowest = λ k w. elim (cases_lt k y) [ inl l ↦ absurd (lower k l (root_same k w.0 w.1)) | inr l ↦ l ];
  }
