-- When a forest has the classes of the smallest equivalence that holds a list of pairs and carries joined nodes to their parts. Assumes nothing. (docs/RULES.md, "Forests")
use Rattle.std.specs.Prelude.{◌≡◌, ℕ, ◌<◌, ◌↔◌, List, ◌∷◌, Some, Option}
use Rattle.recipe.specs.Common.{In}
use Rattle.closure.specs.Closures.{Closure}
use Rattle.forest.specs.Rows.{IsNode, Rows, parent, remembered, root}

-- the parts of nodes: for each node and side a part or none
abbrev pub Parts : Type 0
Parts = ℕ → ℕ → Option ℕ

-- the nodes of a list of pairs, and what they carry to parts, joined
abbrev pub Joined : Parts → List (ℕ × ℕ) → ℕ → ℕ → Type 0
Joined sub pairs = Closure (λ u v. In (u, v) pairs) (λ u side c. (side < 3) × (sub u side ≡ Some c))

-- two nodes have one root exactly if they are joined, and a root remembers for each side a part of a node of its class, if a node of its class has one
pub record Exact (sub : Parts) (pairs : List (ℕ × ℕ)) (ws : List ℕ) : Type 0 where
  pub rows : Rows ws
  pub nodes : (i side c : ℕ) → IsNode ws i → side < 3 → sub i side ≡ Some c → IsNode ws c
  pub told : (u v : ℕ) → In (u, v) pairs → IsNode ws u × IsNode ws v
  pub classes : (u v : ℕ) → IsNode ws u → IsNode ws v → (root ws u ≡ root ws v) ↔ Joined sub pairs u v
  pub some : (i side c : ℕ) → IsNode ws i → side < 3 → sub i side ≡ Some c → (d : ℕ) × (remembered ws (root ws i) side ≡ Some d)
  pub of_class : (r side d : ℕ) → IsNode ws r → side < 3 → parent ws r ≡ r → remembered ws r side ≡ Some d → (i : ℕ) × IsNode ws i × (root ws i ≡ r) × (sub i side ≡ Some d)

-- one pair more: whatever the parts and pairs so far, what was exact for these is exact with the new one
abbrev pub OneMore : ℕ → ℕ → List ℕ → List ℕ → Type 0
OneMore u v old new = (sub : Parts) (pairs : List (ℕ × ℕ)) → Exact sub pairs old → Exact sub ((u, v) ∷ pairs) new
