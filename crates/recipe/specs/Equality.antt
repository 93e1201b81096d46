-- When two finished recipes are equal, each in its scope: alpha-equivalence, with names compared by their binders. Assumes nothing. (docs/RULES.md, "Equality")
use Rattle.std.specs.Prelude.{◌≡◌, ℕ, Bool, true, ◌∷◌}
use Rattle.recipe.specs.Recipes.{Recipe}
use Rattle.recipe.specs.Scopes.{Scope, NameEqual}

-- one rule for each form; no other pair is equal
pub data Equal {L : Type 0} (same : L → L → Bool) : Scope → Recipe L → Scope → Recipe L → Type 0 where
  nils : {Φ Ψ : Scope} → Equal same Φ Recipe.nil Ψ Recipe.nil
  leaves : {Φ Ψ : Scope} {l m : L} → same l m ≡ true → Equal same Φ (Recipe.leaf l) Ψ (Recipe.leaf m)
  names : {Φ Ψ : Scope} {x y : ℕ} → NameEqual Φ x Ψ y → Equal same Φ (Recipe.name x) Ψ (Recipe.name y)
  binds : {Φ Ψ : Scope} {a b : ℕ} {t u : Recipe L} → Equal same (a ∷ Φ) t (b ∷ Ψ) u → Equal same Φ (Recipe.bind a t) Ψ (Recipe.bind b u)
  calls : {Φ Ψ : Scope} {t u v w : Recipe L} → Equal same Φ t Ψ v → Equal same Φ u Ψ w → Equal same Φ (Recipe.call t u) Ψ (Recipe.call v w)
