-- What a walk finds has a low level and a low name, and is seen from linked places. Assumes nothing.
use Rattle.std.proofs.Common.{◌≡◌, ℕ, suc, ◌<◌, Bool, true, false, cond, ◌≢◌, List, [], ◌∷◌, length, Some, None, Option, sym, refl, arith, inl, inr, eqb}
use Rattle.recipe.specs.Fillings.{Pair}
use Rattle.recipe.specs.Links.{Linked, kind_of}
use Rattle.recipe.specs.Tables.{Form, Table}
use Rattle.recipe.specs.declared.labels.Finding.{Finding}
use Rattle.recipe.specs.declared.labels.Label.{Label}
use Rattle.closure.specs.Closures.{Closure}
use Rattle.closure.specs.Decision.{WellFormed}
use Rattle.closure.specs.Names.{Joined, Node}
use Rattle.closure.specs.Walks.{SeenAt, Walks, form_label, found_above}
use Rattle.closure.proofs.MatchedNames.{joined_low}
use Rattle.nodes.specs.JoinedNames.{FindsJoined}
use Rattle.nodes.specs.Records.{written_form}
use Rattle.nodes.proofs.ClashesFound.{form_there}
use Rattle.nodes.proofs.PlacesInside.{linked_inside, moved_in}
use Rattle.sheet.specs.Layout.{records}
use Rattle.sheet.specs.Solved.{Solved, written_table}
use Rattle.sheet.specs.Spots.{FindsName, FindsPart, LevelBelow}

-- a label of a form is no level
form_level : {L : Type 0} (number : L → Option ℕ) (f : Form L) (n : ℕ) → LevelBelow n (Finding.Label (form_label number f))
form_level number Form.nil n level e = cc
form_level number (Form.leaf l) n level e = cc
form_level number (Form.name x) n level e = cc
form_level number (Form.hole h) n level e = cc
form_level number (Form.bind a c) n level e = cc
form_level number (Form.call c d) n level e = cc

-- a level grows by one above a binder
name_level : (test : Bool) (x n : ℕ) → LevelBelow (suc n) (Finding.Label (cond test (Label.Local 0) (Label.Name x)))
name_level true x n level e = let is : level ≡ 0 = cc in omega arith
name_level false x n level e = cc

above_level : (o : Option ℕ) (f : Finding) (n : ℕ) → LevelBelow n f → LevelBelow (suc n) (found_above o f)
above_level None f n low = λ level e. let h = low level e in omega arith
above_level (Some a) (Finding.Label Label.Nil) n low = λ level e. cc
above_level (Some a) (Finding.Label (Label.Leaf k)) n low = λ level e. cc
above_level (Some a) (Finding.Label (Label.Name x)) n low = name_level (eqb x a) x n
above_level (Some a) (Finding.Label (Label.Local k)) n low = λ level e. let h = low k refl in let is : level ≡ suc k = cc in omega arith
above_level (Some a) (Finding.Label Label.Bind) n low = λ level e. cc
above_level (Some a) (Finding.Label Label.Call) n low = λ level e. cc
above_level (Some a) Finding.Absent n low = λ level e. cc
above_level (Some a) Finding.Open n low = λ level e. cc

-- a path without steps
empty_path : (path : List ℕ) → length path ≡ 0 → path ≡ []
empty_path [] e = refl
empty_path (s ∷ path) e = absurd (omega (arith, e))

module _ {L : Type 0} {T : Table L} {m : ℕ} {told : List Pair} where
  seen_level : {r p : ℕ} {f g : Finding} (n : ℕ) → SeenAt T m told r p f g → LevelBelow n f → LevelBelow n g
  seen_level n (SeenAt.name j) low = λ level e. cc
  seen_level n (SeenAt.other o) low = low

  -- a level that a walk finds is below the length of the path
  pub walk_level : {number : L → Option ℕ} {p : ℕ} {path : List ℕ} {f : Finding} → Walks T m told number p path f → LevelBelow (length path) f
  walk_level {number = number} (Walks.label {p = p} n) = form_level number (T.form p) 0
  walk_level (Walks.absent n none) = λ level e. cc
  walk_level (Walks.down {path = path} {f = f} y i w) = above_level y.under f (length path) (walk_level w)
  walk_level (Walks.along {path = path} k l n w c) = seen_level (length path) c (walk_level w)
  walk_level (Walks.undecided all) = λ level e. cc

  -- a finding that is no name is seen as it is
  pub seen_same : {r p : ℕ} {f : Finding} → FindsName f None → SeenAt T m told r p f f
  seen_same none = SeenAt.other none

  module _ (ready : WellFormed T m told) where
    -- where a name is seen from another place, a name of that place is joined with it, so that one is found
    joined_seen : {r p x : ℕ} {f g : Finding} → SeenAt T m told r p f g → f ≡ Finding.Label (Label.Name x) → x < m → (y : ℕ) × (y < m) × Joined T m told (Node.name r x) (Node.name p y)
    joined_seen {r = r} {p = p} {x = x} (SeenAt.name {x = z} {y = y} j) e low =
        let one : z ≡ x = cc in
        let k : Joined T m told (Node.name r x) (Node.name p y) = rw (← one) j in
        (y, elim (joined_low ready (Closure.back k)) [ inl d ↦ (let same : x ≡ y = cc in rw (← same) low) | inr h ↦ h ], k)
    joined_seen (SeenAt.other o) e low = absurd (o _ e)

    pub seen_none : {r p x : ℕ} {f g : Finding} → SeenAt T m told r p f g → f ≡ Finding.Label (Label.Name x) → x < m → FindsJoined T m told r x p None → ⊥
    seen_none seen e low none = let (y, few, j) = joined_seen seen e low in none y few j

    -- and what is found is what is seen
    pub seen_some : {r p x : ℕ} {f : Finding} (y : ℕ) → f ≡ Finding.Label (Label.Name x) → FindsJoined T m told r x p (Some y) → SeenAt T m told r p f (Finding.Label (Label.Name y))
    seen_some y e found = rw e (SeenAt.name found.has.1)

  module _ {number : L → Option ℕ} {p : ℕ} {path : List ℕ} (solid : kind_of (T.form p) ≢ 3) where
    -- a walk that ends at a place, one that finds no part at a step, and one that goes on to a part
    pub walk_here : (l : Label) → length path ≡ 0 → l ≡ form_label number (T.form p) → Walks T m told number p path (Finding.Label l)
    walk_here l none is = let empty : path ≡ [] = empty_path path none in rw (empty, is) (Walks.label solid)

    pub walk_absent : {s : ℕ} {rest : List ℕ} → path ≡ s ∷ rest → FindsPart (T.form p) s None → Walks T m told number p path Finding.Absent
    walk_absent e none = rw e (Walks.absent solid none)

  pub walk_down : {number : L → Option ℕ} {p s at : ℕ} {path rest : List ℕ} {f : Finding} (under : Option ℕ) → path ≡ s ∷ rest → FindsPart (T.form p) s (Some (at, under)) → Walks T m told number at rest f → Walks T m told number p path (found_above under f)
  walk_down {s = s} {at = at} under e i w = rw e (Walks.down (record { step = s; at = at; under = under }) i w)

-- the form that the records write is that of the table
pub form_read : (size : ℕ) (ws recs : List ℕ) (p : ℕ) → recs ≡ records size ws → p < size → written_form recs p ≡ (written_table size ws).form p
form_read size ws recs p is place = rw is (sym (form_there size (records size ws) p place))

-- a place that is linked with one of the table is one of the table
pub shown_inside : {size m : ℕ} {told : List Pair} {ws : List ℕ} → Solved size m told ws → {p q : ℕ} → Linked (written_table size ws) told p q → p < size → q < size
shown_inside {size = size} {told = told} {ws = ws} solved l place =
    moved_in size (linked_inside (written_table size ws) told _ solved.ready.past (solved.words (omega (arith, place))).first.places l) place
