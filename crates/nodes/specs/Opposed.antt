-- Places with one root that differ, as a search of the rows and the words finds them. Only private functions cite it. Assumes nothing.
use Rattle.std.specs.Prelude.{◌≡◌, ℕ, ◌+◌, ◌*◌, ◌<◌, ◌≢◌, List, length, Some, None, Option, nat_eq, slice_index}
use Rattle.forest.specs.Rows.{node_or_none, root}
use Rattle.recipe.specs.Links.{Differ, kind_of}
use Rattle.nodes.specs.Records.{written_form}

-- the words have a row for the place
abbrev pub HasRow : List ℕ → ℕ → Type 0
HasRow ws p = 8 * p + 7 < length ws

-- two places have one root, and differ
pub record Opposed (rows ws : List ℕ) (p q : ℕ) : Type 0 where
  pub one_root : root rows p ≡ root rows q
  pub differ : Differ nat_eq (written_form ws p) (written_form ws q)

-- two of the n lowest places have one root, and differ
abbrev pub SomeOpposed : ℕ → List ℕ → List ℕ → Type 0
SomeOpposed n rows ws = (p : ℕ) × (q : ℕ) × (p < n) × (q < n) × Opposed rows ws p q

-- the place that the marks have for a root, or none: a mark is one more than a place, or 0
abbrev pub marked_for : List ℕ → ℕ → Option ℕ
marked_for marks r = node_or_none (slice_index marks r)

-- the marks of the n lowest places: for each root a place that has it and is no hole, from which no other differs, or none where all that have it are holes
pub record Marked (rows ws : List ℕ) (n : ℕ) (marks : List ℕ) : Type 0 where
  pub solid : (r f : ℕ) → marked_for marks r ≡ Some f → (f < n) × (root rows f ≡ r) × (kind_of (written_form ws f) ≢ 3)
  pub holes : (k : ℕ) → k < n → marked_for marks (root rows k) ≡ None → kind_of (written_form ws k) ≡ 3
  pub agree : (k f : ℕ) → k < n → marked_for marks (root rows k) ≡ Some f → Differ nat_eq (written_form ws f) (written_form ws k) → ⊥
