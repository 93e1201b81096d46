-- Names in their scopes: what a binder more on each side does, and that equality of names is an equivalence. Assumes nothing.
use Rattle.std.proofs.Common.{◌≡◌, ℕ, ◌≢◌, ◌⊎◌, ◌↔◌, [], ◌∷◌, Some, None, Option, refl, ◌∙◌, inl, inr, arith}
use Rattle.std.proofs.lemmas.Bool.{cases_eq}
use Rattle.std.proofs.lemmas.Bool.Decides.{nat_tests}
use Rattle.recipe.specs.EqualityLaws.{NoneAtCovered}
use Rattle.recipe.specs.Scopes.{Scope, inner, NameEqual}
use Rattle.recipe.proofs.InnerNumbers.{first_at}

-- two names are equal below one binder more exactly when both are its name, or neither is and they are equal without it
pub name_step : (Φ Ψ : Scope) (a b x y : ℕ) → NameEqual (a ∷ Φ) x (b ∷ Ψ) y ↔ (((x ≡ a) × (y ≡ b)) ⊎ ((x ≢ a) × (y ≢ b) × NameEqual Φ x Ψ y))
unfolding inner
name_step Φ Ψ a b x y = (λ h. grind (arith, nat_tests), λ h. grind (arith, nat_tests))

-- one name below one binder more on both sides: it is the binder's, or else equal to itself without it
pub name_under : (Φ Ψ : Scope) (a x : ℕ) → (x ≢ a → NameEqual Φ x Ψ x) → NameEqual (a ∷ Φ) x (a ∷ Ψ) x
name_under Φ Ψ a x other =
    (name_step Φ Ψ a a x x).1 (elim (cases_eq x a) [ inl e ↦ inl (e, e) | inr n ↦ inr (n, n, other n) ])

pub name_reflexive : (Φ : Scope) (x : ℕ) → NameEqual Φ x Φ x
name_reflexive Φ x = named (inner Φ x) refl
  where
    named : (r : Option ℕ) → inner Φ x ≡ r → NameEqual Φ x Φ x
    named None e = inl (e, e, refl)
    named (Some k) e = inr (k, e, e)

pub name_symmetric : (Φ Ψ : Scope) (x y : ℕ) → NameEqual Φ x Ψ y → NameEqual Ψ y Φ x
name_symmetric Φ Ψ x y h = grind arith

pub name_transitive : (Φ Ψ Ω : Scope) (x y z : ℕ) → NameEqual Φ x Ψ y → NameEqual Ψ y Ω z → NameEqual Φ x Ω z
name_transitive Φ Ψ Ω x y z h k = grind arith

-- a name that is neither binder's is equal to itself below the one and below the other
pub name_beside : (Φ : Scope) (a b x : ℕ) → x ≢ a → x ≢ b → NameEqual (a ∷ Φ) x (b ∷ Φ) x
name_beside Φ a b x n m = (name_step Φ Φ a b x x).1 (inr (n, m, name_reflexive Φ x))

-- the inner number of a name is the lowest position at which it stands
pub none_at_covered_lem : NoneAtCovered
none_at_covered_lem Φ i x c e =
    let at = first_at Φ x i e in
    at.none_lower c.further_in c.lower (c.one_name ∙ at.there)

-- the partner of a binder's own name is the other binder's name
pub name_at_binder : (Φ Ψ : Scope) (a b x : ℕ) → NameEqual (a ∷ Φ) x (b ∷ Ψ) b → x ≡ a
name_at_binder Φ Ψ a b x h = elim ((name_step Φ Ψ a b x b).0 h) [ inl e ↦ e.0 | inr n ↦ absurd (n.1 refl) ]

-- a name that is not the binder's is equal to its partner without the binders
pub name_past_binder : (Φ Ψ : Scope) (a b x y : ℕ) → y ≢ b → NameEqual (a ∷ Φ) x (b ∷ Ψ) y → (x ≢ a) × NameEqual Φ x Ψ y
name_past_binder Φ Ψ a b x y other h = elim ((name_step Φ Ψ a b x y).0 h) [ inl e ↦ absurd (other e.1) | inr n ↦ (n.0, n.2) ]

-- without a binder names are equal only if they are one
pub name_without : (x y : ℕ) → NameEqual [] x [] y → x ≡ y
unfolding inner
name_without x y h = grind arith
