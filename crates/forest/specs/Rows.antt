-- A forest of nodes in rows of four words: the parent of a node, and a part or none for each of three sides. Assumes nothing. (docs/RULES.md, "Forests")
use Rattle.std.specs.Prelude.{◌≡◌, ℕ, zero, suc, ◌+◌, ◌*◌, ◌/◌, ◌<◌, ◌≤◌, List, length, Some, None, Option, slice_index}

-- the node i has a row
abbrev pub IsNode : List ℕ → ℕ → Type 0
IsNode ws i = 4 * i + 3 < length ws

-- the parent of a node
abbrev pub parent : List ℕ → ℕ → ℕ
parent ws i = slice_index ws (4 * i)

-- a word that is one more than a node, or 0 for none
abbrev pub node_or_none : ℕ → Option ℕ
node_or_none zero = None
node_or_none (suc i) = Some i

-- the part that a node remembers for a side
abbrev pub remembered : List ℕ → ℕ → ℕ → Option ℕ
remembered ws i side = node_or_none (slice_index ws (4 * i + 1 + side))

-- the node to which so many steps to a parent lead
unfoldable pub climb : ℕ → List ℕ → ℕ → ℕ
climb zero ws i = i
climb (suc k) ws i = climb k ws (parent ws i)

-- the root of a node (a parent is no higher than its node, so as many steps as the node's number are enough)
unfoldable pub root : List ℕ → ℕ → ℕ
root ws i = climb i ws i

-- rows of whole nodes: no parent is higher than its node, and parts are nodes
pub record Rows (ws : List ℕ) : Type 0 where
  pub whole : (n : ℕ) × (length ws ≡ 4 * n)
  pub low : (i : ℕ) → parent ws i ≤ i
  pub inside : (i side c : ℕ) → IsNode ws i → side < 3 → remembered ws i side ≡ Some c → IsNode ws c

-- the sum of the parents of the first n nodes
unfoldable pub sum_parents : ℕ → List ℕ → ℕ
sum_parents zero ws = 0
sum_parents (suc n) ws = sum_parents n ws + parent ws n

-- the sum of the parents of all nodes, which falls with each join
unfoldable pub weight : List ℕ → ℕ
weight ws = sum_parents (length ws / 4) ws

-- the same roots and parts as before
pub record SameForest (old new : List ℕ) : Type 0 where
  pub rows : Rows new
  pub long : length new ≡ length old
  pub lighter : weight new ≤ weight old
  pub roots : (i : ℕ) → root new i ≡ root old i
  pub parts : (i side : ℕ) → side < 3 → remembered new i side ≡ remembered old i side
