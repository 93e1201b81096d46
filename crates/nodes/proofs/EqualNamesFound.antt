-- A name that is equal to one of another scope stands there at its inner number, or is free in both. Assumes nothing.
use Rattle.std.proofs.Common.{◌≡◌, ℕ, ◌≢◌, false, nat_eq, Some, None, Option, sym, ap, ◌∙◌, inl, inr}
use Rattle.std.proofs.lemmas.Bool.{both_ways, eq-eqb, true≢false}
use Rattle.std.proofs.lemmas.Option.{none-some, slice_get-get_or}
use Rattle.std.specs.List.{slice_get}
use Rattle.std.specs.Option.{option_eq}
use Rattle.recipe.specs.Scopes.{Scope, NameEqual, inner}
use Rattle.recipe.proofs.InnerNumbers.{first_at}

-- two answers that a test tells apart
pub told_apart : (o r : Option ℕ) → option_eq nat_eq o r ≡ false → o ≢ r
told_apart None None e same = true≢false e
told_apart None (Some k) e same = none-some k same
told_apart (Some j) None e same = none-some j (sym same)
told_apart (Some j) (Some k) e same = let is : j ≡ k = cc in both_ways _ e (eq-eqb j k is)

-- a name with an inner number stands at that position
name_at : (Ψ : Scope) (k y : ℕ) → inner Ψ y ≡ Some k → slice_get Ψ k ≡ Some y
name_at Ψ k y e =
    let at = first_at Ψ y k e in
    slice_get-get_or Ψ k 0 at.within ∙ ap Some at.there

module _ (Φ Ψ : Scope) (x : ℕ) where
  -- the inner number of a bound name, in the scope of an equal one
  partner_bound : (k y : ℕ) → inner Φ x ≡ Some k → NameEqual Φ x Ψ y → inner Ψ y ≡ Some k
  partner_bound k y e (inl free) = absurd (none-some k (sym free.0 ∙ e))
  partner_bound k y e (inr bound) = bound.2 ∙ sym bound.1 ∙ e

  -- no name stands at the position of the bound name
  pub none_there : (k y : ℕ) → inner Φ x ≡ Some k → slice_get Ψ k ≡ None → NameEqual Φ x Ψ y → ⊥
  none_there k y e at h = none-some y (sym at ∙ name_at Ψ k y (partner_bound k y e h))

  -- the name at the position has another inner number
  pub other_there : (k z y : ℕ) → inner Φ x ≡ Some k → slice_get Ψ k ≡ Some z → inner Ψ z ≢ Some k → NameEqual Φ x Ψ y → ⊥
  other_there k z y e at other h =
      let there = partner_bound k y e h in
      let here = name_at Ψ k y there in
      let same : z ≡ y = cc in
      other (ap (inner Ψ) same ∙ there)

  -- a free name that is bound in the other scope
  pub bound_there : (y : ℕ) → inner Φ x ≡ None → inner Ψ x ≢ None → NameEqual Φ x Ψ y → ⊥
  bound_there y e other (inl free) = other (ap (inner Ψ) free.2 ∙ free.1)
  bound_there y e other (inr bound) = none-some bound.0 (sym e ∙ bound.1)
