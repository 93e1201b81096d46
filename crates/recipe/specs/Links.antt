-- Which places a list of pairs links, and how links can contradict each other. Assumes nothing. (docs/RULES.md, "Links")
use Rattle.std.specs.Prelude.{◌≡◌, ℕ, Bool, false, ◌≢◌, List}
use Rattle.recipe.specs.Common.{In}
use Rattle.recipe.specs.Fillings.{Pair}
use Rattle.recipe.specs.Recipes.{Part}
use Rattle.recipe.specs.Tables.{Form, Table, parts}

-- the kind of a form, as the records of a table have it
abbrev pub kind_of : {L : Type 0} → Form L → ℕ
kind_of Form.nil = 0
kind_of (Form.leaf l) = 1
kind_of (Form.name x) = 2
kind_of (Form.hole h) = 3
kind_of (Form.bind a c) = 4
kind_of (Form.call c d) = 5

-- the smallest equivalence that links the pairs and the places of one hole, and with two places of one kind their parts at one step
pub data Linked {L : Type 0} (T : Table L) (pairs : List Pair) : ℕ → ℕ → Type 0 where
  itself : {p : ℕ} → Linked T pairs p p
  back : {p q : ℕ} → Linked T pairs p q → Linked T pairs q p
  chain : {p q r : ℕ} → Linked T pairs p q → Linked T pairs q r → Linked T pairs p r
  told : {p q : ℕ} → In (p, q) pairs → Linked T pairs p q
  one_hole : {p q h : ℕ} → T.form p ≡ Form.hole h → T.form q ≡ Form.hole h → Linked T pairs p q
  one_step : {p q : ℕ} (x y : Part ℕ) → Linked T pairs p q → kind_of (T.form p) ≡ kind_of (T.form q) → In x (parts (T.form p)) → In y (parts (T.form q)) → x.step ≡ y.step → Linked T pairs x.at y.at

-- neither of two forms is a hole, and their kinds differ, or they are leaves that are not the same
pub data Differ {L : Type 0} (same : L → L → Bool) : Form L → Form L → Type 0 where
  kinds : {f g : Form L} → kind_of f ≢ 3 → kind_of g ≢ 3 → kind_of f ≢ kind_of g → Differ same f g
  leaves : {l m : L} → same l m ≡ false → Differ same (Form.leaf l) (Form.leaf m)

-- two places clash: they are linked, and differ
pub record Clash {L : Type 0} (same : L → L → Bool) (T : Table L) (pairs : List Pair) (p q : ℕ) : Type 0 where
  pub linked : Linked T pairs p q
  pub differ : Differ same (T.form p) (T.form q)

-- a way from place to place, by links and down to parts
pub data Reaches {L : Type 0} (T : Table L) (pairs : List Pair) : ℕ → ℕ → Type 0 where
  here : {p : ℕ} → Reaches T pairs p p
  to_linked : {p q r : ℕ} → Linked T pairs p q → Reaches T pairs q r → Reaches T pairs p r
  to_part : {p r : ℕ} (x : Part ℕ) → In x (parts (T.form p)) → Reaches T pairs x.at r → Reaches T pairs p r

-- a place comes back to itself by such a way, and not by links alone
pub record ComesBack {L : Type 0} (T : Table L) (pairs : List Pair) (p : ℕ) : Type 0 where
  pub holder : ℕ
  pub part : Part ℕ
  pub there : Reaches T pairs p holder
  pub down : In part (parts (T.form holder))
  pub return : Reaches T pairs part.at p
