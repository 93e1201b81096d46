-- Misnamed places, as a search of the rows and the words finds them. Only private functions cite it. Assumes nothing.
use Rattle.std.specs.Prelude.{◌≡◌, ℕ, suc, ◌+◌, ◌*◌, ◌<◌, ◌≢◌, List, Some, None, Option}
use Rattle.recipe.specs.Tables.{Form}
use Rattle.forest.specs.Rows.{root}
use Rattle.nodes.specs.Opposed.{marked_for}
use Rattle.nodes.specs.Records.{written_form}

-- the name of a name place, or none for another form
abbrev pub name_of_form : {L : Type 0} → Form L → Option ℕ
name_of_form Form.nil = None
name_of_form (Form.leaf l) = None
name_of_form (Form.name x) = Some x
name_of_form (Form.hole h) = None
name_of_form (Form.bind a c) = None
name_of_form (Form.call c d) = None

-- the names at places below n are below m
abbrev pub NamesBelow : ℕ → List ℕ → ℕ → Type 0
NamesBelow m ws n = (k x : ℕ) → k < n → name_of_form (written_form ws k) ≡ Some x → x < m

-- the root of the node of the name x at the place p, with m names for each place
abbrev pub name_root : List ℕ → ℕ → ℕ → ℕ → ℕ
name_root names_rows m p x = root names_rows (suc (p * m + x))

-- another name of the place has the root of its name x
pub record DoubleRoot (names_rows : List ℕ) (m p x : ℕ) : Type 0 where
  pub second : ℕ
  pub low : second < m
  pub other : second ≢ x
  pub one_root : name_root names_rows m p second ≡ name_root names_rows m p x

-- q is a name place with the root of p, and its name has another root than the name x of p
pub record ApartFrom (names_rows rows ws : List ℕ) (m p x q : ℕ) : Type 0 where
  pub name : ℕ
  pub named : name_of_form (written_form ws q) ≡ Some name
  pub one_root : root rows q ≡ root rows p
  pub apart : name_root names_rows m q name ≢ name_root names_rows m p x

-- the name x of p has the root of nowhere, or of another name of p, or another root than the name of a lower name place with the root of p
pub data SpoiledRoot (names_rows rows ws : List ℕ) (m p x : ℕ) : Type 0 where
  gone : name_root names_rows m p x ≡ 0 → SpoiledRoot names_rows rows ws m p x
  double : DoubleRoot names_rows m p x → SpoiledRoot names_rows rows ws m p x
  apart : {q : ℕ} → q < p → ApartFrom names_rows rows ws m p x q → SpoiledRoot names_rows rows ws m p x

-- p is a name place, and its name is so
pub record MisnamedRoot (names_rows rows ws : List ℕ) (m p : ℕ) : Type 0 where
  pub name : ℕ
  pub named : name_of_form (written_form ws p) ≡ Some name
  pub spoiled : SpoiledRoot names_rows rows ws m p name

-- the marks of the n lowest places: for each root a name place that has it, with whose name the names of all name places with that root have one root, or none where no place with that root is a name place
pub record MarkedNames (names_rows rows ws : List ℕ) (m n : ℕ) (marks : List ℕ) : Type 0 where
  pub solid : (r f : ℕ) → marked_for marks r ≡ Some f → (f < n) × (root rows f ≡ r) × ((y : ℕ) × (name_of_form (written_form ws f) ≡ Some y))
  pub others : (k : ℕ) → k < n → marked_for marks (root rows k) ≡ None → name_of_form (written_form ws k) ≡ None
  pub agree : (k f x y : ℕ) → k < n → marked_for marks (root rows k) ≡ Some f → name_of_form (written_form ws k) ≡ Some x → name_of_form (written_form ws f) ≡ Some y → name_root names_rows m k x ≡ name_root names_rows m f y
