-- The rows that a forest starts with, and those over places. Only private functions cite it. Assumes nothing.
use Rattle.std.specs.Prelude.{◌≡◌, ℕ, ◌*◌, ◌<◌, List, Some, Option, slice_index}
use Rattle.std.specs.Option.{option_map}
use Rattle.recipe.specs.Labels.{part_at}
use Rattle.recipe.specs.Tables.{parts}
use Rattle.forest.specs.Exact.{Parts}
use Rattle.forest.specs.Rows.{parent, remembered}
use Rattle.nodes.specs.Records.{written_form}

-- the part at a side that the words of a place write
abbrev pub written_part : List ℕ → ℕ → ℕ → Option ℕ
written_part ws p side = option_map (λ y. y.at) (part_at side (parts (written_form ws p)))

-- the parts of a place are numbers below 512
abbrev pub FewParts : List ℕ → ℕ → Type 0
FewParts ws p = (side c : ℕ) → written_part ws p side ≡ Some c → c < 512

-- a node is its own parent, and remembers its own parts
pub record OwnParts (sub : Parts) (rows : List ℕ) (i : ℕ) : Type 0 where
  pub own : parent rows i ≡ i
  pub parts : (side : ℕ) → side < 3 → remembered rows i side ≡ sub i side

-- the node of a place is so, with the parts of the place
abbrev pub OwnRow : List ℕ → List ℕ → ℕ → Type 0
OwnRow ws rows p = OwnParts (written_part ws) rows p

-- the rows of lower nodes are as before
abbrev pub SameBelow : ℕ → List ℕ → List ℕ → Type 0
SameBelow p old new = (k : ℕ) → k < 4 * p → slice_index new k ≡ slice_index old k
