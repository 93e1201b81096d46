-- Laws of the answer of `alike`: it says exactly what holds, and at most one is right. Assumes nothing. (docs/RULES.md, "Alike")
use Rattle.std.specs.Prelude.{◌≡◌, ℕ, Bool, true, false, ◌↔◌, None, Ok, Err, Result}
use Rattle.recipe.specs.declared.refusals.Refusal.{Refusal}
use Rattle.recipe.specs.Alike.{Alikes, AlwaysEqual, Finished, HoleAmong, NeverEqual, alike_fault}
use Rattle.recipe.specs.Common.{Least}
use Rattle.recipe.specs.Tables.{Table}

-- at most one answer is right
abbrev pub AlikesOnce : {L : Type 0} → (L → L → Bool) → Type 0
AlikesOnce {L} same =
    (T : Table L) (p q : ℕ) (r s : Result Bool Refusal) → Alikes same T p q r → Alikes same T p q s → r ≡ s

-- what an answer says of the holes and of the fillings
pub record AlikeExact {L : Type 0} (same : L → L → Bool) (T : Table L) (p q : ℕ) (r : Result Bool Refusal) : Type 0 where
  pub unfinished : (h : ℕ) → (r ≡ Err (Refusal.HoleInside h)) ↔ Least (HoleAmong T p q) h
  pub answered : (b : Bool) → r ≡ Ok b → Finished T p q
  pub equal : Finished T p q → (r ≡ Ok true) ↔ AlwaysEqual same T p q
  pub different : Finished T p q → (r ≡ Ok false) ↔ NeverEqual same T p q

-- where the places are there and of one depth, an answer is a hole exactly where there is one, and else exactly what holds of the fillings
abbrev pub AlikesExact : {L : Type 0} → (L → L → Bool) → Type 0
AlikesExact {L} same =
    (T : Table L) (p q : ℕ) (r : Result Bool Refusal) → alike_fault T p q ≡ None → Alikes same T p q r → AlikeExact same T p q r
