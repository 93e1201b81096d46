-- The tests of a place, one by one. Assumes nothing.
use Rattle.std.proofs.Common.{◌≡◌, ℕ, Bool, true, false, cond, not, ltb, List, [], ◌∷◌, Some, None, Option, sym, refl, ap, ◌∙◌, inl, inr}
use Rattle.std.specs.List.{list_any}
use Rattle.std.proofs.lemmas.Option.{none-some}
use Rattle.std.proofs.lemmas.Bool.{or_parts, or_from}
use Rattle.recipe.specs.declared.places.Place.{Place}
use Rattle.recipe.specs.declared.refusals.Refusal.{Refusal}
use Rattle.recipe.specs.Common.{In}
use Rattle.recipe.specs.Recipes.{Part}
use Rattle.recipe.specs.Checking.{numbers_fit, fault_by_tests}

-- what a list of records is read as past its end, which never happens
abbrev pub past : Place
past = record { kind = 0; a = 0; b = 0 }

-- a test that no part passes fails at each part
pub none_passes : (test : Part ℕ → Bool) (xs : List (Part ℕ)) → list_any test xs ≡ false → (x : Part ℕ) → In x xs → test x ≡ false
none_passes test [] none x i = absurd i
none_passes test (y ∷ ys) none x (inl e) = ap test e ∙ (or_parts (test y) _ none).0
none_passes test (y ∷ ys) none x (inr i) = none_passes test ys (or_parts (test y) _ none).1 x i

-- a test that fails at each part is passed by none
pub passes_none : (test : Part ℕ → Bool) (xs : List (Part ℕ)) → ((x : Part ℕ) → In x xs → test x ≡ false) → list_any test xs ≡ false
passes_none test [] fails = refl
passes_none test (y ∷ ys) fails = or_from (test y) _ (fails y (inl refl)) (passes_none test ys (λ x i. fails x (inr i)))

-- a record has none of the five faults: the two of its own, and the three that are given
pub record Clear (many : ℕ) (x : Place) (bad again deep : Bool) : Type 0 where
  pub known : ltb 5 x.kind ≡ false
  pub fit : not (numbers_fit many x) ≡ false
  pub rising : bad ≡ false
  pub once : again ≡ false
  pub shallow : deep ≡ false

-- of a row of faults that has none, the first is not there, and neither is the rest
passed : (b : Bool) (r : Refusal) (rest : Option Refusal) → cond b (Some r) rest ≡ None → (b ≡ false) × (rest ≡ None)
passed true r rest e = absurd (none-some r (sym e))
passed false r rest e = (refl, e)

module _ (many p : ℕ) (x : Place) (bad again deep : Bool) where
  -- without a refusal there is none of the five faults
  pub clear : fault_by_tests many p x bad again deep ≡ None → Clear many x bad again deep
  clear e =
      let (known, e₁) = passed (ltb 5 x.kind) (Refusal.UnknownKind p) _ e in
      let (fit, e₂) = passed (not (numbers_fit many x)) (Refusal.BadNumber p) _ e₁ in
      let (rising, e₃) = passed bad (Refusal.BadPart p) _ e₂ in
      let (once, e₄) = passed again (Refusal.HeldTwice p) _ e₃ in
      record { known = known; fit = fit; rising = rising; once = once; shallow = (passed deep (Refusal.TooDeep p) None e₄).0 }

  -- without the five faults there is no refusal
  pub faultless : Clear many x bad again deep → fault_by_tests many p x bad again deep ≡ None
  faultless c = rw (c.known, c.fit, c.rising, c.once, c.shallow)
