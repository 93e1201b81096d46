-- Equal names of two scopes: a name is equal to one name at most, and whether to one is decided; the names of scopes are binders. Assumes nothing.
use Rattle.std.proofs.Common.{◌≡◌, ℕ, zero, suc, ◌<◌, ◌⊎◌, List, [], ◌∷◌, get_or, Some, None, Option, sym, refl, ap, ◌∙◌, subst, inl, inr, arith}
use Rattle.std.proofs.lemmas.Bool.{cases_eq}
use Rattle.std.proofs.lemmas.Bool.Decides.{nat_tests}
use Rattle.std.proofs.lemmas.Option.{none-some}
use Rattle.recipe.specs.Common.{In}
use Rattle.recipe.specs.Fillings.{Pair}
use Rattle.recipe.specs.Recipes.{Part}
use Rattle.recipe.specs.Scopes.{Scope, NameEqual, extended, inner}
use Rattle.recipe.specs.Tables.{Table, Holder, holder, parts, scope, scope_under, scope_within}
use Rattle.recipe.proofs.EqualScopes.{name_step, name_symmetric, name_transitive, name_without}
use Rattle.recipe.proofs.Holders.{holder_tells}
use Rattle.recipe.proofs.InnerNumbers.{first_at}
use Rattle.closure.specs.Decision.{WellFormed}
use Rattle.closure.proofs.Known.{Known, known_same, known_option}

-- a name is equal to no other name of its scope
one_in_scope : (Φ : Scope) (y z : ℕ) → NameEqual Φ y Φ z → y ≡ z
one_in_scope [] y z e = name_without y z e
one_in_scope (a ∷ Φ) y z e = elim ((name_step Φ Φ a a y z).0 e) [ inl both ↦ both.0 ∙ sym both.1 | inr n ↦ one_in_scope Φ y z n.2 ]

-- a name is equal to at most one name of another scope
pub name_once : (Φ Ψ : Scope) (x y z : ℕ) → NameEqual Φ x Ψ y → NameEqual Φ x Ψ z → y ≡ z
name_once Φ Ψ x y z e f = one_in_scope Ψ y z (name_transitive Ψ Φ Ψ y x z (name_symmetric Φ Ψ x y e) f)

pub name_once_back : (Φ Ψ : Scope) (x y z : ℕ) → NameEqual Φ x Ψ z → NameEqual Φ y Ψ z → x ≡ y
name_once_back Φ Ψ x y z e f = one_in_scope Φ x y (name_transitive Φ Ψ Φ x z y e (name_symmetric Φ Ψ y z f))

-- whether there is one can be decided
pub equal_name_or_none : (Φ Ψ : Scope) (x : ℕ) → ((y : ℕ) × NameEqual Φ x Ψ y) ⊎ ((y : ℕ) → NameEqual Φ x Ψ y → ⊥)
equal_name_or_none Φ Ψ x = by_number (inner Φ x) refl
  where
    by_number : (r : Option ℕ) → inner Φ x ≡ r → ((y : ℕ) × NameEqual Φ x Ψ y) ⊎ ((y : ℕ) → NameEqual Φ x Ψ y → ⊥)
    by_number None e =
        elim (known_option (inner Ψ x) None) [
          | inl f ↦ inl (x, inl (e, f, refl))
          | inr n ↦ inr (λ y h. n (grind arith))
        ]
    by_number (Some k) e =
        elim (known_option (inner Ψ (get_or Ψ k 0)) (Some k)) [
          | inl f ↦ inl (get_or Ψ k 0, inr (k, e, f))
          | inr n ↦ inr (λ y h. let there : inner Ψ y ≡ Some k = grind arith in n (ap (inner Ψ) (first_at Ψ y k there).there ∙ there))
        ]

pub equal_name_or_none_back : (Φ Ψ : Scope) (y : ℕ) → ((x : ℕ) × NameEqual Φ x Ψ y) ⊎ ((x : ℕ) → NameEqual Φ x Ψ y → ⊥)
equal_name_or_none_back Φ Ψ y =
    elim (equal_name_or_none Ψ Φ y) [ inl one ↦ inl (one.0, name_symmetric Ψ Φ y one.0 one.1) | inr none ↦ inr (λ x e. none x (name_symmetric Φ Ψ x y e)) ]

-- so it is of two names whether they are equal
pub equal_decided : (Φ Ψ : Scope) (x y : ℕ) → Known (NameEqual Φ x Ψ y)
equal_decided Φ Ψ x y = elim (equal_name_or_none Φ Ψ x) [
  | inl (z, e) ↦ known_same (λ i. subst (λ w. NameEqual Φ x Ψ w) i e) (λ f. name_once Φ Ψ x z y e f) (cases_eq z y)
  | inr n ↦ inr (n y)
]

-- a name of a scope with a part's binder is this binder, or a name of the scope above
inner_extended : (o : Option ℕ) (Φ : Scope) (x k : ℕ) → inner (extended o Φ) x ≡ Some k → (o ≡ Some x) ⊎ ((j : ℕ) × (inner Φ x ≡ Some j))
unfolding inner
inner_extended None Φ x k e = inr (k, e)
inner_extended (Some a) Φ x k e = grind (arith, nat_tests)

module _ {L : Type 0} (T : Table L) (m : ℕ) (few : (p a : ℕ) (y : Part ℕ) → In y (parts (T.form p)) → y.under ≡ Some a → a < m) where
  -- the names of a scope are binders
  within_low : (n p x k : ℕ) → inner (scope_within T n p) x ≡ Some k → x < m
  unfolding scope_within inner
  within_low zero p x k e = absurd (none-some k e)
  within_low (suc n) p x k e = held (holder T p) refl e (λ q j f. within_low n q x j f)
    where
      held : (o : Option Holder) → holder T p ≡ o → inner (scope_under (scope_within T n) o) x ≡ Some k → ((q j : ℕ) → inner (scope_within T n q) x ≡ Some j → x < m) → x < m
      held None at e above = absurd (none-some k e)
      held (Some h) at e above =
          let (q, low, y, i, there, by) = holder_tells T p p h at in
          elim (inner_extended h.under (scope_within T n h.place) x k e) [ inl own ↦ few q x y i (ap (λ g. g.under) (sym by) ∙ own) | inr one ↦ above h.place one.0 one.1 ]

  -- so a name that is equal to one below m is below m
  pub equal_few : (Φ : Scope) (q x y : ℕ) → x < m → NameEqual Φ x (scope T q) y → y < m
  equal_few Φ q x y h e = elim e [ inl free ↦ omega (arith, free.2) | inr bound ↦ within_low q q y bound.0 bound.2 ]

module _ {L : Type 0} {T : Table L} {m : ℕ} {pairs : List Pair} (ready : WellFormed T m pairs) where
  pub equal_low : (Φ : Scope) (q x y : ℕ) → x < m → NameEqual Φ x (scope T q) y → y < m
  equal_low = equal_few T m ready.binders

  pub equal_low_back : (p x y : ℕ) (Ψ : Scope) → y < m → NameEqual (scope T p) x Ψ y → x < m
  equal_low_back p x y Ψ h e = equal_low Ψ p y x h (name_symmetric (scope T p) Ψ x y e)
