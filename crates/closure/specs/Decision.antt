-- When a list of pairs has a filling, in terms of links and joined names. Assumes nothing. (docs/RULES.md, "The decision")
use Rattle.std.specs.Prelude.{◌≡◌, ℕ, ◌<◌, ◌≤◌, Bool, ◌≢◌, ◌⊎◌, ◌↔◌, List, length, Some}
use Rattle.recipe.specs.declared.places.Place.{Place}
use Rattle.recipe.specs.Checking.{name_count}
use Rattle.recipe.specs.Common.{In}
use Rattle.recipe.specs.EqualityLaws.{Free}
use Rattle.recipe.specs.Fillings.{Filling, Pair, Satisfiable, SatisfiesAll}
use Rattle.recipe.specs.Links.{Linked, kind_of}
use Rattle.recipe.specs.Recipes.{Recipe, Part}
use Rattle.recipe.specs.Tables.{Form, Table, parts, table_of, depth}
use Rattle.recipe.specs.Tells.{NoClash, NoCycle}
use Rattle.recipe.specs.Validity.{Ordered, Valid}
use Rattle.closure.specs.Names.{Node, Joined}

-- a table with pairs to be matched is well formed: parts are ordered, nothing stands past the end, names and binders are below m, and pairs are of places of the table at one depth
pub record WellFormed {L : Type 0} (T : Table L) (m : ℕ) (pairs : List Pair) : Type 0 where
  pub ordered : Ordered T
  pub past : (p : ℕ) → T.size ≤ p → T.form p ≡ Form.nil
  pub names : (p x : ℕ) → T.form p ≡ Form.name x → x < m
  pub binders : (p a : ℕ) (y : Part ℕ) → In y (parts (T.form p)) → y.under ≡ Some a → a < m
  pub told : (p q : ℕ) → In (p, q) pairs → (p < T.size) × (q < T.size) × (depth T p ≡ depth T q)

-- a name place whose name is nowhere, or joined with another name of the place, or not joined with the name of a linked name place, among those that are asked
pub data SpoiledAmong {L : Type 0} (T : Table L) (m : ℕ) (pairs : List Pair) (Asked : ℕ → ℕ → Type 0) : ℕ → Type 0 where
  gone : {p x : ℕ} → T.form p ≡ Form.name x → Joined T m pairs (Node.name p x) Node.nowhere → SpoiledAmong T m pairs Asked p
  double : {p x y : ℕ} → T.form p ≡ Form.name x → y ≢ x → Joined T m pairs (Node.name p x) (Node.name p y) → SpoiledAmong T m pairs Asked p
  apart : {p q x y : ℕ} → T.form p ≡ Form.name x → T.form q ≡ Form.name y → Asked q p → Linked T pairs p q → (Joined T m pairs (Node.name p x) (Node.name q y) → ⊥) → SpoiledAmong T m pairs Asked p

-- a name place is spoiled, by whatever linked name place
abbrev pub Spoiled : {L : Type 0} → Table L → ℕ → List Pair → ℕ → Type 0
Spoiled T m pairs = SpoiledAmong T m pairs (λ q p. Unit {0})

-- no name place is spoiled
abbrev pub NoSpoiled : {L : Type 0} → Table L → ℕ → List Pair → Type 0
NoSpoiled T m pairs = (p : ℕ) → Spoiled T m pairs p → ⊥

-- no places clash, no place comes back to itself, and no name place is spoiled
pub record Consistent {L : Type 0} (same : L → L → Bool) (T : Table L) (m : ℕ) (pairs : List Pair) : Type 0 where
  pub no_clash : NoClash same T pairs
  pub no_cycle : NoCycle T pairs
  pub no_spoiled : NoSpoiled T m pairs

-- a place is linked with hole places alone
abbrev pub OnlyHoles : {L : Type 0} → Table L → List Pair → ℕ → Type 0
OnlyHoles T pairs p = (q : ℕ) → Linked T pairs p q → kind_of (T.form q) ≡ 3

-- a filling exists exactly when none of the three holds, which can be decided; and then there is one that gives any one recipe without free names to each hole that is linked with holes alone
pub record Decides {L : Type 0} (same : L → L → Bool) (T : Table L) (m : ℕ) (pairs : List Pair) : Type 0 where
  pub exact : Satisfiable same T pairs ↔ Consistent same T m pairs
  pub either : Consistent same T m pairs ⊎ (Consistent same T m pairs → ⊥)
  pub any_closed : Consistent same T m pairs → (closed : Recipe L) → ((x : ℕ) → Free x closed → ⊥) → (θ : Filling L) × SatisfiesAll same T θ pairs × ((p h : ℕ) → T.form p ≡ Form.hole h → OnlyHoles T pairs p → θ h ≡ closed)

-- this holds of every table with pairs that is well formed
abbrev pub DecisionExact : {L : Type 0} → (L → L → Bool) → Type 0
DecisionExact {L} same = (T : Table L) (m : ℕ) (pairs : List Pair) → WellFormed T m pairs → Decides same T m pairs

-- every hole number is below 512, so that those from 512 on are new
abbrev pub HolesBelow : {L : Type 0} → Table L → Type 0
HolesBelow T = (p h : ℕ) → T.form p ≡ Form.hole h → h < 512

-- a valid table, with pairs of its places at one depth, is well formed, for any m that is no lower than the number of its names, and its holes are below 512
abbrev pub ValidWellFormed : Type 0 → Type 0
ValidWellFormed L =
    (places : List Place) (ls : List L) (m : ℕ) (pairs : List Pair) → Valid places ls → name_count places ≤ m → ((p q : ℕ) → In (p, q) pairs → (p < length places) × (q < length places) × (depth (table_of places ls) p ≡ depth (table_of places ls) q)) → WellFormed (table_of places ls) m pairs × HolesBelow (table_of places ls)
