-- The places that a refusal carries, found class by class of linked places. Assumes nothing. (docs/RULES.md, "The causes")
use Rattle.std.specs.Prelude.{ℕ, ◌<◌, ◌≤◌, Bool, ◌≢◌, ◌↔◌, List, Result}
use Rattle.recipe.specs.Common.{Least}
use Rattle.recipe.specs.Fillings.{Pair}
use Rattle.recipe.specs.Links.{Linked, Clash, ComesBack, kind_of}
use Rattle.recipe.specs.Tables.{Table}
use Rattle.recipe.specs.Tells.{Decided, FailsUpTo, NoClash, NoCycle}
use Rattle.recipe.specs.declared.refusals.Refusal.{Refusal}
use Rattle.closure.specs.Decision.{HolesBelow, SpoiledAmong, WellFormed}

-- the lowest place that is no hole, of those linked with it
pub record LowestNonHole {L : Type 0} (T : Table L) (pairs : List Pair) (r : ℕ) : Type 0 where
  pub no_hole : kind_of (T.form r) ≢ 3
  pub lowest : (q : ℕ) → Linked T pairs r q → kind_of (T.form q) ≢ 3 → r ≤ q

-- the lowest place of its class, and the class comes back to itself
pub record LowestBack {L : Type 0} (T : Table L) (pairs : List Pair) (p : ℕ) : Type 0 where
  pub back : ComesBack T pairs p
  pub lowest : (q : ℕ) → Linked T pairs p q → p ≤ q

-- a is the lowest place that is no hole of a class with a clash, and of all these the lowest; b is the lowest place of its class that it clashes with
pub record ClashFound {L : Type 0} (same : L → L → Bool) (T : Table L) (pairs : List Pair) (a b : ℕ) : Type 0 where
  pub non_hole : LowestNonHole T pairs a
  pub partner : Least (Clash same T pairs a) b
  pub first : (r q : ℕ) → LowestNonHole T pairs r → Clash same T pairs r q → a ≤ r

-- p is the lowest place of a class that comes back to itself, and of all these the lowest
pub record CycleFound {L : Type 0} (T : Table L) (pairs : List Pair) (p : ℕ) : Type 0 where
  pub back : LowestBack T pairs p
  pub first : (q : ℕ) → LowestBack T pairs q → p ≤ q

-- a name place is spoiled, by a lower linked name place where it is by one
abbrev pub Misnamed : {L : Type 0} → Table L → ℕ → List Pair → ℕ → Type 0
Misnamed T m pairs = SpoiledAmong T m pairs (λ q p. q < p)

-- the places that the rules name, as they are found
pub record CausesFound {L : Type 0} (same : L → L → Bool) (T : Table L) (m : ℕ) (pairs : List Pair) : Type 0 where
  pub clash : (a b : ℕ) → (Least (λ p. (q : ℕ) × Clash same T pairs p q) a × Least (Clash same T pairs a) b) ↔ ClashFound same T pairs a b
  pub cycle : (p : ℕ) → Least (ComesBack T pairs) p ↔ CycleFound T pairs p
  pub names : HolesBelow T → NoClash same T pairs → NoCycle T pairs → (p : ℕ) → Least (FailsUpTo same T pairs) p ↔ Least (Misnamed T m pairs) p
  -- one of the four answers is always right
  pub answered : HolesBelow T → (r : Result (Unit {0}) Refusal) × Decided same T pairs r

-- this holds of every table with pairs that is well formed
abbrev pub CausesExact : {L : Type 0} → (L → L → Bool) → Type 0
CausesExact {L} same =
    (T : Table L) (m : ℕ) (pairs : List Pair) → WellFormed T m pairs → CausesFound same T m pairs
