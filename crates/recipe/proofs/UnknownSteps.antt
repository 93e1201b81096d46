-- The first step of a path that leads nowhere in any recipe, and what refuses a look by it. Assumes nothing.
use Rattle.std.proofs.Common.{◌≡◌, ℕ, zero, suc, ◌<◌, ◌≤◌, List, [], ◌∷◌, length, get_or, Some, None, ap, ◌∙◌, refl, arith, lt-ltb, le-ltb}
use Rattle.std.proofs.lemmas.Bool.{cond-false, cond-true, le-leb, lt-leb}
use Rattle.std.specs.Option.{option_map}
use Rattle.recipe.specs.Looks.{look_fault, unknown_step}
use Rattle.recipe.specs.Tables.{Table}
use Rattle.recipe.specs.declared.refusals.Refusal.{Refusal}

-- the first step above 2
pub unknown_found : (path : List ℕ) (i : ℕ) → i < length path → 2 < get_or path i 0 → ((k : ℕ) → k < i → get_or path k 0 ≤ 2) → unknown_step path ≡ Some i
unknown_found [] i within high low = absurd (omega arith)
unknown_found (s ∷ path) zero within high low = cond-true _ _ _ (lt-ltb 2 s high)
unknown_found (s ∷ path) (suc i) within high low =
    cond-false _ _ _ (le-ltb 2 s (low 0 (omega arith))) ∙ ap (option_map suc) (unknown_found path i (omega arith) high (λ k h. low (suc k) (omega arith)))

-- or there is none
pub unknown_none : (path : List ℕ) → ((k : ℕ) → k < length path → get_or path k 0 ≤ 2) → unknown_step path ≡ None
unknown_none [] low = refl
unknown_none (s ∷ path) low = cond-false _ _ _ (le-ltb 2 s (low 0 (omega arith))) ∙ ap (option_map suc) (unknown_none path (λ k h. low (suc k) (omega arith)))

module _ {L : Type 0} (T : Table L) (p : ℕ) (path : List ℕ) where
  pub past_fault : T.size ≤ p → look_fault T p path ≡ Some (Refusal.NoSuchPlace p)
  past_fault past = cond-true _ _ _ (le-leb T.size p past)

  pub step_fault : (i : ℕ) → p < T.size → unknown_step path ≡ Some i → look_fault T p path ≡ Some (Refusal.UnknownStep i)
  step_fault i place e = cond-false _ _ _ (lt-leb T.size p place) ∙ ap (option_map Refusal.UnknownStep) e

  pub no_fault : p < T.size → unknown_step path ≡ None → look_fault T p path ≡ None
  no_fault place e = cond-false _ _ _ (lt-leb T.size p place) ∙ ap (option_map Refusal.UnknownStep) e
