-- The rows that a forest over names starts with. Only private functions cite it. Assumes nothing.
use Rattle.std.specs.Prelude.{ℕ, zero, suc, ◌/◌, ◌%◌, ◌<◌, List, Some, Option}
use Rattle.recipe.specs.Labels.{part_at}
use Rattle.recipe.specs.Tables.{parts}
use Rattle.forest.specs.Exact.{Parts}
use Rattle.nodes.specs.NameClasses.{name_at}
use Rattle.nodes.specs.Records.{written_form}
use Rattle.nodes.specs.Starting.{OwnParts}

-- the part at a side of the name x at the place p that the words write, with m names for each place
abbrev pub written_name : List ℕ → ℕ → ℕ → ℕ → ℕ → Option ℕ
written_name ws m p x side = name_at m x (part_at side (parts (written_form ws p)))

-- the parts of nodes, as the words write them
abbrev pub written_names : List ℕ → ℕ → Parts
written_names ws m zero side = Some 0
written_names ws m (suc k) side = written_name ws m (k / m) (k % m) side

-- the nodes below n are their own parents, and remember the parts that the words write
abbrev pub OwnNames : List ℕ → ℕ → List ℕ → ℕ → Type 0
OwnNames ws m rows n = (i : ℕ) → i < n → OwnParts (written_names ws m) rows i
