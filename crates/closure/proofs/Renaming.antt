-- Renaming the free names of a recipe, with new names for its binders. Assumes nothing.
use Rattle.std.proofs.Common.{◌≡◌, ℕ, suc, ◌<◌, Bool, cond, eqb, refl, inl, inr, arith}
use Rattle.std.proofs.lemmas.Bool.{cond_both, eqb-true, eqb-false}
use Rattle.recipe.specs.Recipes.{Recipe}
use Rattle.recipe.specs.Sameness.{Sameness}
use Rattle.closure.proofs.Relations.{Related, under, weaken}

-- a function of names that takes a to c, and others as before
abbrev updated : (ℕ → ℕ) → ℕ → ℕ → ℕ → ℕ
updated f a c x = cond (eqb x a) c (f x)

-- free names by a function, and the binders n, n + 1, .. by nesting
pub with_names : {L : Type 0} → (ℕ → ℕ) → ℕ → Recipe L → Recipe L
with_names f n Recipe.nil = Recipe.nil
with_names f n (Recipe.leaf l) = Recipe.leaf l
with_names f n (Recipe.name x) = Recipe.name (f x)
with_names f n (Recipe.bind a t) = Recipe.bind n (with_names (updated f a n) (suc n) t)
with_names f n (Recipe.call t u) = Recipe.call (with_names f n t) (with_names f n u)

-- the names that the updated function gives are below the next binder
updated_low : (f : ℕ → ℕ) (a n : ℕ) → ((x : ℕ) → f x < n) → (x : ℕ) → updated f a n x < suc n
updated_low f a n low x = cond_both (eqb x a) n (f x) (λ y. y < suc n) (λ h. omega arith) (λ h. let l = low x in omega arith)

-- what it gives, read as a relation below the two binders
updated_under : (f : ℕ → ℕ) (a n : ℕ) → ((x : ℕ) → f x < n) → (x y : ℕ) → y ≡ updated f a n x → under (λ u v. v ≡ f u) a n x y
updated_under f a n low x y =
    cond_both (eqb x a) n (f x) (λ z. y ≡ z → under (λ u v. v ≡ f u) a n x y)
    (λ h e. inl (eqb-true x a h, e))
    (λ h e. let l = low x in inr (eqb-false x a h, λ d. omega arith, e))

-- a recipe is related to its renaming by the function, if all that it gives is below n
pub renamed_related : {L : Type 0} {same : L → L → Bool} (laws : Sameness same) (f : ℕ → ℕ) (n : ℕ) (t : Recipe L) → ((x : ℕ) → f x < n) → Related same (λ x y. y ≡ f x) t (with_names f n t)
unfolding with_names
renamed_related laws f n Recipe.nil low = Related.nils
renamed_related laws f n (Recipe.leaf l) low = Related.leaves (laws.reflexive l)
renamed_related laws f n (Recipe.name x) low = Related.names refl
renamed_related laws f n (Recipe.bind a t) low =
    Related.binds (weaken (under (λ x y. y ≡ f x) a n) (renamed_related laws (updated f a n) (suc n) t (updated_low f a n low)) (λ path x y g h. updated_under f a n low x y))
renamed_related laws f n (Recipe.call t u) low = Related.calls (renamed_related laws f n t low) (renamed_related laws f n u low)
