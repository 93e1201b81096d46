-- What stands at the end of a path from a place, in terms of links and joined names. Assumes nothing. (docs/RULES.md, "Walks")
use Rattle.std.specs.Prelude.{◌≡◌, ℕ, suc, Bool, cond, ◌≢◌, ◌↔◌, List, [], ◌∷◌, Some, None, Ok, Option, ◌==◌}
use Rattle.recipe.specs.Common.{In}
use Rattle.recipe.specs.Fillings.{Pair, Satisfiable}
use Rattle.recipe.specs.Links.{Linked, kind_of}
use Rattle.recipe.specs.Looks.{Looks, look_fault}
use Rattle.recipe.specs.Numbering.{number_of}
use Rattle.recipe.specs.Recipes.{Part}
use Rattle.recipe.specs.Tables.{Form, Table, parts}
use Rattle.recipe.specs.declared.labels.Finding.{Finding}
use Rattle.recipe.specs.declared.labels.Label.{Label}
use Rattle.closure.specs.Decision.{WellFormed, OnlyHoles}
use Rattle.closure.specs.Names.{Node, Joined}

-- the label of a form that is no hole, with a number, or none, for each leaf
abbrev pub form_label : {L : Type 0} → (L → Option ℕ) → Form L → Label
form_label number Form.nil = Label.Nil
form_label number (Form.leaf l) = Label.Leaf (number l)
form_label number (Form.name x) = Label.Name x
form_label number (Form.hole h) = Label.Nil
form_label number (Form.bind a c) = Label.Bind
form_label number (Form.call c d) = Label.Call

-- a label, seen from above a binder of the name a: that name is the local one of the level 0, and levels grow by one
abbrev pub label_above : ℕ → Label → Label
label_above a Label.Nil = Label.Nil
label_above a (Label.Leaf number) = Label.Leaf number
label_above a (Label.Name x) = cond (x == a) (Label.Local 0) (Label.Name x)
label_above a (Label.Local level) = Label.Local (suc level)
label_above a Label.Bind = Label.Bind
label_above a Label.Call = Label.Call

-- a finding in a part, seen from above the binder that the part stands under, or under none
abbrev pub found_above : Option ℕ → Finding → Finding
found_above None f = f
found_above (Some a) (Finding.Label l) = Finding.Label (label_above a l)
found_above (Some a) Finding.Absent = Finding.Absent
found_above (Some a) Finding.Open = Finding.Open

-- a finding at one place and what it is at a linked one: a name is the one that it is joined with, and all else is the same
pub data SeenAt {L : Type 0} (T : Table L) (m : ℕ) (pairs : List Pair) (r p : ℕ) : Finding → Finding → Type 0 where
  name : {x y : ℕ} → Joined T m pairs (Node.name r x) (Node.name p y) → SeenAt T m pairs r p (Finding.Label (Label.Name x)) (Finding.Label (Label.Name y))
  other : {f : Finding} → ((x : ℕ) → f ≢ Finding.Label (Label.Name x)) → SeenAt T m pairs r p f f

-- what a walk from a place along a path finds
pub data Walks {L : Type 0} (T : Table L) (m : ℕ) (pairs : List Pair) (number : L → Option ℕ) : ℕ → List ℕ → Finding → Type 0 where
  -- at a place that is no hole, at the end of the path: its label
  label : {p : ℕ} → kind_of (T.form p) ≢ 3 → Walks T m pairs number p [] (Finding.Label (form_label number (T.form p)))
  -- absent, where no part is at the step
  absent : {p s : ℕ} {path : List ℕ} → kind_of (T.form p) ≢ 3 → ((y : Part ℕ) → In y (parts (T.form p)) → y.step ≢ s) → Walks T m pairs number p (s ∷ path) Finding.Absent
  -- what is found in the part at the step, seen from above its binder
  down : {p : ℕ} {path : List ℕ} {f : Finding} (y : Part ℕ) → In y (parts (T.form p)) → Walks T m pairs number y.at path f → Walks T m pairs number p (y.step ∷ path) (found_above y.under f)
  -- at a hole: what is found at a linked place that is no hole, seen from the hole
  along : {p r : ℕ} {path : List ℕ} {f g : Finding} → kind_of (T.form p) ≡ 3 → Linked T pairs p r → kind_of (T.form r) ≢ 3 → Walks T m pairs number r path f → SeenAt T m pairs r p f g → Walks T m pairs number p path g
  -- open, where all linked places are holes
  undecided : {p : ℕ} {path : List ℕ} → OnlyHoles T pairs p → Walks T m pairs number p path Finding.Open

-- where a filling exists, a walk finds something, and exactly what the right answer to the look is
pub record WalkExact {L : Type 0} (same : L → L → Bool) (T : Table L) (ls : List L) (m : ℕ) (pairs : List Pair) (p : ℕ) (path : List ℕ) : Type 0 where
  pub finds : (f : Finding) × Walks T m pairs (number_of same ls) p path f
  pub right : (f : Finding) → Walks T m pairs (number_of same ls) p path f ↔ Looks same T ls pairs p path (Ok f)

-- this holds of every table with pairs that is well formed, and every look that is not refused
abbrev pub WalksExact : {L : Type 0} → (L → L → Bool) → Type 0
WalksExact {L} same =
    (T : Table L) (ls : List L) (m : ℕ) (pairs : List Pair) (p : ℕ) (path : List ℕ) → WellFormed T m pairs → Satisfiable same T pairs → look_fault T p path ≡ None → WalkExact same T ls m pairs p path
