-- What one join does to a forest while joins of parts are still to be made, said by labels of nodes. Only private functions cite it. Assumes nothing.
use Rattle.std.specs.Prelude.{◌≡◌, ◌≢◌, ℕ, ◌<◌, ◌≤◌, cond, List, length, Some, ◌==◌}
use Rattle.std.specs.Option.{option_or}
use Rattle.forest.specs.Exact.{Parts}
use Rattle.forest.specs.Rows.{IsNode, Rows, parent, remembered, root, weight}

-- every node has the label of its root
abbrev pub Respects : (ℕ → ℕ) → List ℕ → Type 0
Respects label ws = (i : ℕ) → label (root ws i) ≡ label i

-- the part of a node has the label of the part that its root remembers
abbrev pub Carries : Parts → List ℕ → (ℕ → ℕ) → Type 0
Carries sub ws label =
    (i side c : ℕ) → IsNode ws i → side < 3 → sub i side ≡ Some c → (d : ℕ) × (remembered ws (root ws i) side ≡ Some d) × (label c ≡ label d)

-- what a root remembers is a part of a node of its class
abbrev pub OfClass : Parts → List ℕ → Type 0
OfClass sub ws =
    (r side d : ℕ) → IsNode ws r → side < 3 → parent ws r ≡ r → remembered ws r side ≡ Some d → (i : ℕ) × IsNode ws i × (root ws i ≡ r) × (sub i side ≡ Some d)

-- nodes of one label have parts of one label
abbrev pub Closed : Parts → List ℕ → (ℕ → ℕ) → Type 0
Closed sub ws label =
    (i j side c d : ℕ) → IsNode ws i → IsNode ws j → side < 3 → label i ≡ label j → sub i side ≡ Some c → sub j side ≡ Some d → label c ≡ label d

-- the root high was put under the lower root low, which keeps its part of each side, or takes that of high
pub record Links (low high : ℕ) (old new : List ℕ) : Type 0 where
  pub rows : Rows new
  pub long : length new ≡ length old
  pub roots : (i : ℕ) → root new i ≡ cond (root old i == high) low (root old i)
  pub taken : (side : ℕ) → side < 3 → remembered new low side ≡ option_or (remembered old low side) (remembered old high side)
  pub others : (i side : ℕ) → side < 3 → i ≢ low → remembered new i side ≡ remembered old i side
  pub falls : weight new < weight old

-- u and v were joined, and what they carry to parts
pub record Joins (u v : ℕ) (old new : List ℕ) : Type 0 where
  pub rows : Rows new
  pub long : length new ≡ length old
  pub lighter : weight new ≤ weight old
  -- classes have only grown
  pub coarser : (i : ℕ) → root new (root old i) ≡ root new i
  pub joined : root new u ≡ root new v
  -- a root that is still one has what it remembered
  pub kept : (i side d : ℕ) → side < 3 → remembered old i side ≡ Some d → remembered new i side ≡ Some d
  -- a node that is no root keeps all its parts, and gets no more
  pub still : (i side : ℕ) → side < 3 → root old i ≢ i → remembered new i side ≡ remembered old i side
  pub of_class : (sub : Parts) → OfClass sub old → OfClass sub new
  -- parts are carried along, by every labelling that the classes have in the end
  pub carried : (sub : Parts) (label : ℕ → ℕ) → Respects label new → Carries sub old label → Carries sub new label
  -- and nothing is joined that a closed labelling holds apart
  pub derived : (sub : Parts) (label : ℕ → ℕ) → OfClass sub old → Closed sub old label → Respects label old → label u ≡ label v → Respects label new
