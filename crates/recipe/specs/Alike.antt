-- The answer of `alike`. Assumes nothing. (docs/RULES.md, "Alike")
use Rattle.std.specs.Prelude.{◌≡◌, ℕ, Bool, true, false, not, ◌⊎◌, [], ◌∷◌, Some, None, Ok, Err, Option, Result, ◌==◌, nat_le}
use Rattle.recipe.specs.declared.refusals.Refusal.{Refusal}
use Rattle.recipe.specs.Common.{In, Least, first_that}
use Rattle.recipe.specs.Fillings.{Filling, Satisfies}
use Rattle.recipe.specs.Recipes.{Part}
use Rattle.recipe.specs.Tables.{Form, Table, depth, parts}

-- a place stands at or under p: it is p, or a part of p, or a part of that, and so on
pub data Within {L : Type 0} (T : Table L) : ℕ → ℕ → Type 0 where
  here : {p : ℕ} → Within T p p
  under : {p q : ℕ} (x : Part ℕ) → In x (parts (T.form p)) → Within T x.at q → Within T p q

-- a hole at or under p
pub record HoleWithin {L : Type 0} (T : Table L) (p h : ℕ) : Type 0 where
  pub within : Within T p h
  pub hole : (k : ℕ) × (T.form h ≡ Form.hole k)

-- a hole at or under p or q
abbrev pub HoleAmong : {L : Type 0} → Table L → ℕ → ℕ → ℕ → Type 0
HoleAmong T p q h = HoleWithin T p h ⊎ HoleWithin T q h

-- no hole is at or under p or q: both are finished
abbrev pub Finished : {L : Type 0} → Table L → ℕ → ℕ → Type 0
Finished T p q = (h : ℕ) → HoleAmong T p q h → ⊥

-- every filling makes the two places equal, each in its scope
abbrev pub AlwaysEqual : {L : Type 0} → (L → L → Bool) → Table L → ℕ → ℕ → Type 0
AlwaysEqual {L} same T p q = (θ : Filling L) → Satisfies same T θ (p, q)

-- no filling does
abbrev pub NeverEqual : {L : Type 0} → (L → L → Bool) → Table L → ℕ → ℕ → Type 0
NeverEqual {L} same T p q = (θ : Filling L) → Satisfies same T θ (p, q) → ⊥

-- what refuses the question whatever stands at the two places, in the order of the tests
abbrev pub alike_fault : {L : Type 0} → Table L → ℕ → ℕ → Option Refusal
alike_fault T p q =
    first_that ((nat_le T.size p, Refusal.NoSuchPlace p) ∷ (nat_le T.size q, Refusal.NoSuchPlace q) ∷ (not (depth T p == depth T q), Refusal.UnequalDepths p q) ∷ [])

-- the answer to whether the recipes at p and q are equal in their scopes
pub data Alikes {L : Type 0} (same : L → L → Bool) (T : Table L) (p q : ℕ) : Result Bool Refusal → Type 0 where
  refused : {e : Refusal} → alike_fault T p q ≡ Some e → Alikes same T p q (Err e)
  unfinished : {h : ℕ} → alike_fault T p q ≡ None → Least (HoleAmong T p q) h → Alikes same T p q (Err (Refusal.HoleInside h))
  equal : alike_fault T p q ≡ None → Finished T p q → AlwaysEqual same T p q → Alikes same T p q (Ok true)
  different : alike_fault T p q ≡ None → Finished T p q → NeverEqual same T p q → Alikes same T p q (Ok false)
