-- Laws that equality in scopes obeys: it is an equivalence, and the names of binders do not matter. Assumes nothing. (docs/RULES.md, "Laws of equality")
use Rattle.std.specs.Prelude.{◌≡◌, ℕ, ◌<◌, Bool, cond, ◌≢◌, ◌⊎◌, length, Some, ◌==◌, slice_index}
use Rattle.recipe.specs.Equality.{Equal}
use Rattle.recipe.specs.Recipes.{Recipe}
use Rattle.recipe.specs.Scopes.{Scope, inner}

-- the name x occurs in a recipe, and no binder of the recipe holds that occurrence
abbrev pub Free : {L : Type 0} → ℕ → Recipe L → Type 0
Free x Recipe.nil = ⊥
Free x (Recipe.leaf l) = ⊥
Free x (Recipe.name y) = x ≡ y
Free x (Recipe.bind a t) = (x ≢ a) × Free x t
Free x (Recipe.call t u) = Free x t ⊎ Free x u

-- the name x occurs in a recipe, as a name or as a binder
abbrev pub Occurs : {L : Type 0} → ℕ → Recipe L → Type 0
Occurs x Recipe.nil = ⊥
Occurs x (Recipe.leaf l) = ⊥
Occurs x (Recipe.name y) = x ≡ y
Occurs x (Recipe.bind a t) = (x ≡ a) ⊎ Occurs x t
Occurs x (Recipe.call t u) = Occurs x t ⊎ Occurs x u

-- the free occurrences of a name a, renamed to c
unfoldable pub renamed : {L : Type 0} → ℕ → ℕ → Recipe L → Recipe L
renamed a c Recipe.nil = Recipe.nil
renamed a c (Recipe.leaf l) = Recipe.leaf l
renamed a c (Recipe.name x) = Recipe.name (cond (x == a) c x)
renamed a c (Recipe.bind b t) = Recipe.bind b (cond (b == a) t (renamed a c t))
renamed a c (Recipe.call t u) = Recipe.call (renamed a c t) (renamed a c u)

-- a position of a scope is covered: the same name stands further in
pub record Covered (Φ : Scope) (i : ℕ) : Type 0 where
  pub within : i < length Φ
  pub further_in : ℕ
  pub lower : further_in < i
  pub one_name : slice_index Φ further_in ≡ slice_index Φ i

-- over a sameness, equality in scopes is an equivalence
pub record Equivalence {L : Type 0} (same : L → L → Bool) : Type 0 where
  pub reflexive : (Φ : Scope) (t : Recipe L) → Equal same Φ t Φ t
  pub symmetric : (Φ Ψ : Scope) (t u : Recipe L) → Equal same Φ t Ψ u → Equal same Ψ u Φ t
  pub transitive : (Φ Ψ Ω : Scope) (t u v : Recipe L) → Equal same Φ t Ψ u → Equal same Ψ u Ω v → Equal same Φ t Ω v

-- a binder and its occurrences may be renamed to a name that occurs nowhere in the body
abbrev pub BindersRename : {L : Type 0} → (L → L → Bool) → Type 0
BindersRename {L} same =
    (Φ : Scope) (a c : ℕ) (t : Recipe L) → (Occurs c t → ⊥) → Equal same Φ (Recipe.bind a t) Φ (Recipe.bind c (renamed a c t))

-- no name has the inner number of a covered binder
abbrev pub NoneAtCovered : Type 0
NoneAtCovered = (Φ : Scope) (i x : ℕ) → Covered Φ i → inner Φ x ≢ Some i

-- so the outer of two binders of one name may be renamed to any name that is not free below it, and the body stays as it is
abbrev pub CoveredRename : {L : Type 0} → (L → L → Bool) → Type 0
CoveredRename {L} same =
    (Φ : Scope) (a c : ℕ) (t : Recipe L) → (Free c (Recipe.bind a t) → ⊥) → Equal same Φ (Recipe.bind a (Recipe.bind a t)) Φ (Recipe.bind c (Recipe.bind a t))
