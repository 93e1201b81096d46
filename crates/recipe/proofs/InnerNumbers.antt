-- The inner number of a name: with a binder more, and the position at which the scope has the name. Assumes nothing.
use Rattle.std.proofs.Common.{◌≡◌, ℕ, zero, suc, ◌<◌, eqb, ◌≢◌, [], ◌∷◌, length, get_or, Some, None, Option, sym, refl, ◌∙◌, inl, inr, arith}
use Rattle.std.proofs.lemmas.Bool.{cases_eq, cond-true, cond-false, eq-eqb, ne_eqb}
use Rattle.std.proofs.lemmas.Option.{none-some}
use Rattle.std.specs.Option.{option_map}
use Rattle.recipe.specs.Scopes.{Scope, inner}

-- under no binder, and that of the innermost name and of another
pub inner_nothing : (x : ℕ) → inner [] x ≡ None
unfolding inner
inner_nothing x = refl

pub inner_first : (Φ : Scope) (a x : ℕ) → a ≡ x → inner (a ∷ Φ) x ≡ Some 0
unfolding inner
inner_first Φ a x e = cond-true (eqb a x) _ _ (eq-eqb a x e)

pub inner_later : (Φ : Scope) (a x : ℕ) → a ≢ x → inner (a ∷ Φ) x ≡ option_map suc (inner Φ x)
unfolding inner
inner_later Φ a x n = cond-false (eqb a x) _ _ (ne_eqb a x n)

-- the scope has the name x at the position k, and at no lower one
pub record FirstAt (Φ : Scope) (x k : ℕ) : Type 0 where
  pub within : k < length Φ
  pub there : get_or Φ k 0 ≡ x
  pub none_lower : (j : ℕ) → j < k → get_or Φ j 0 ≢ x

-- with one binder more, of the name or of another
first_own : (Φ : Scope) (a x k : ℕ) → a ≡ x → Some 0 ≡ Some k → FirstAt (a ∷ Φ) x k
first_own Φ a x zero is e = record { within = omega arith; there = is; none_lower = λ j h. absurd (omega arith) }
first_own Φ a x (suc k) is e = absurd (cc)

later : (Φ : Scope) (a x k : ℕ) → a ≢ x → FirstAt Φ x k → (j : ℕ) → j < suc k → get_or (a ∷ Φ) j 0 ≢ x
later Φ a x k n at zero h = n
later Φ a x k n at (suc j) h = at.none_lower j (omega arith)

first_later : (Φ : Scope) (a x k : ℕ) (r : Option ℕ) → a ≢ x → ((j : ℕ) → r ≡ Some j → FirstAt Φ x j) → option_map suc r ≡ Some k → FirstAt (a ∷ Φ) x k
first_later Φ a x k None n below e = absurd (none-some k e)
first_later Φ a x zero (Some j) n below e = absurd (cc)
first_later Φ a x (suc k) (Some j) n below e =
    let at = below k (cc) in
    record { within = omega (arith, at.within); there = at.there; none_lower = later Φ a x k n at }

-- a name with an inner number stands at that position, and at no lower one
pub first_at : (Φ : Scope) (x k : ℕ) → inner Φ x ≡ Some k → FirstAt Φ x k
first_at [] x k e = absurd (none-some k (sym (inner_nothing x) ∙ e))
first_at (a ∷ Φ) x k e = elim (cases_eq a x) [
  | inl is ↦ first_own Φ a x k is (sym (inner_first Φ a x is) ∙ e)
  | inr n ↦ first_later Φ a x k (inner Φ x) n (λ j at. first_at Φ x j at) (sym (inner_later Φ a x n) ∙ e)
]
