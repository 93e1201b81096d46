-- Equality in scopes is an equivalence, and does not see the names of binders. Assumes nothing.
use Rattle.std.proofs.Common.{◌≡◌, ℕ, Bool, eqb, ◌≢◌, ◌∷◌, sym, refl, ◌∙◌, inl, inr}
use Rattle.std.proofs.lemmas.Bool.{cond_both, eqb-true, eqb-false}
use Rattle.recipe.specs.Equality.{Equal}
use Rattle.recipe.specs.EqualityLaws.{Free, Occurs, renamed, Equivalence, BindersRename, CoveredRename}
use Rattle.recipe.specs.Recipes.{Recipe}
use Rattle.recipe.specs.Sameness.{Sameness}
use Rattle.recipe.specs.Scopes.{Scope, NameEqual}
use Rattle.recipe.proofs.EqualScopes.{name_step, name_under, name_beside, name_reflexive, name_symmetric, name_transitive}

-- a free name occurs
free_occurs : {L : Type 0} (x : ℕ) (t : Recipe L) → Free x t → Occurs x t
free_occurs x Recipe.nil free = free
free_occurs x (Recipe.leaf l) free = free
free_occurs x (Recipe.name y) free = free
free_occurs x (Recipe.bind a t) free = inr (free_occurs x t free.1)
free_occurs x (Recipe.call t u) (inl free) = inl (free_occurs x t free)
free_occurs x (Recipe.call t u) (inr free) = inr (free_occurs x u free)

-- what is equal to a name, a bind or a call has its form
pub equal_name : {L : Type 0} {same : L → L → Bool} {Φ Ψ : Scope} {t : Recipe L} {y : ℕ} → Equal same Φ t Ψ (Recipe.name y) → (x : ℕ) × (t ≡ Recipe.name x) × NameEqual Φ x Ψ y
equal_name (Equal.names {x = x} e) = (x, refl, e)

pub equal_bind : {L : Type 0} {same : L → L → Bool} {Φ Ψ : Scope} {t u : Recipe L} {b : ℕ} → Equal same Φ t Ψ (Recipe.bind b u) → (a : ℕ) × (v : Recipe L) × (t ≡ Recipe.bind a v) × Equal same (a ∷ Φ) v (b ∷ Ψ) u
equal_bind (Equal.binds {a = a} {t = v} e) = (a, v, refl, e)

pub equal_call : {L : Type 0} {same : L → L → Bool} {Φ Ψ : Scope} {t u v : Recipe L} → Equal same Φ t Ψ (Recipe.call u v) → (l r : Recipe L) × (t ≡ Recipe.call l r) × Equal same Φ l Ψ u × Equal same Φ r Ψ v
equal_call (Equal.calls {t = l} {u = r} d e) = (l, r, refl, d, e)

pub equal_insides : {L : Type 0} {same : L → L → Bool} {Φ Ψ : Scope} {t u : Recipe L} {a b : ℕ} → Equal same Φ (Recipe.bind a t) Ψ (Recipe.bind b u) → Equal same (a ∷ Φ) t (b ∷ Ψ) u
equal_insides (Equal.binds e) = e

module _ {L : Type 0} (same : L → L → Bool) (laws : Sameness same) where
  -- a recipe is equal to itself in two scopes in which each of its free names is equal to itself
  pub equal_itself : (t : Recipe L) (Φ Ψ : Scope) → ((x : ℕ) → Free x t → NameEqual Φ x Ψ x) → Equal same Φ t Ψ t
  equal_itself Recipe.nil Φ Ψ each = Equal.nils
  equal_itself (Recipe.leaf l) Φ Ψ each = Equal.leaves (laws.reflexive l)
  equal_itself (Recipe.name x) Φ Ψ each = Equal.names (each x refl)
  equal_itself (Recipe.bind a t) Φ Ψ each = Equal.binds (equal_itself t (a ∷ Φ) (a ∷ Ψ) (λ x free. name_under Φ Ψ a x (λ other. each x (other, free))))
  equal_itself (Recipe.call t u) Φ Ψ each = Equal.calls (equal_itself t Φ Ψ (λ x free. each x (inl free))) (equal_itself u Φ Ψ (λ x free. each x (inr free)))

  pub equal_symmetric : {Φ Ψ : Scope} {t u : Recipe L} → Equal same Φ t Ψ u → Equal same Ψ u Φ t
  equal_symmetric Equal.nils = Equal.nils
  equal_symmetric (Equal.leaves e) = Equal.leaves (laws.symmetric _ _ e)
  equal_symmetric (Equal.names e) = Equal.names (name_symmetric _ _ _ _ e)
  equal_symmetric (Equal.binds e) = Equal.binds (equal_symmetric e)
  equal_symmetric (Equal.calls e f) = Equal.calls (equal_symmetric e) (equal_symmetric f)

  pub equal_transitive : {Φ Ψ Ω : Scope} {t u v : Recipe L} → Equal same Φ t Ψ u → Equal same Ψ u Ω v → Equal same Φ t Ω v
  equal_transitive Equal.nils Equal.nils = Equal.nils
  equal_transitive (Equal.leaves e) (Equal.leaves f) = Equal.leaves (laws.transitive _ _ _ e f)
  equal_transitive (Equal.names e) (Equal.names f) = Equal.names (name_transitive _ _ _ _ _ _ e f)
  equal_transitive (Equal.binds e) (Equal.binds f) = Equal.binds (equal_transitive e f)
  equal_transitive (Equal.calls e f) (Equal.calls g h) = Equal.calls (equal_transitive e g) (equal_transitive f h)

  pub equivalence : Equivalence same
  equivalence = record {
    reflexive = λ Φ t. equal_itself t Φ Φ (λ x free. name_reflexive Φ x);
    symmetric = λ Φ Ψ t u e. equal_symmetric e;
    transitive = λ Φ Ψ Ω t u v e f. equal_transitive e f;
  }

  -- a recipe, and its renaming to a name that occurs nowhere in it, are equal in two scopes that match the two names, and each other free name with itself
  pub equal_renamed : (a c : ℕ) (t : Recipe L) (Φ Ψ : Scope) → (Occurs c t → ⊥) → NameEqual Φ a Ψ c → ((x : ℕ) → Free x t → x ≢ a → NameEqual Φ x Ψ x) → Equal same Φ t Ψ (renamed a c t)
  unfolding renamed
  equal_renamed a c Recipe.nil Φ Ψ new both each = Equal.nils
  equal_renamed a c (Recipe.leaf l) Φ Ψ new both each = Equal.leaves (laws.reflexive l)
  equal_renamed a c (Recipe.name x) Φ Ψ new both each =
      Equal.names (cond_both (eqb x a) c x (λ y. NameEqual Φ x Ψ y) (λ h. rw (eqb-true x a h) both) (λ h. each x refl (eqb-false x a h)))
  equal_renamed a c (Recipe.bind b t) Φ Ψ new both each =
      let body : b ≢ a → Equal same (b ∷ Φ) t (b ∷ Ψ) (renamed a c t) = λ n. equal_renamed a c t (b ∷ Φ) (b ∷ Ψ) (λ o. new (inr o)) ((name_step Φ Ψ b b a c).1 (inr (λ e. n (sym e), λ e. new (inl e), both))) (λ x free m. name_under Φ Ψ b x (λ o. each x (o, free) m)) in
      cond_both (eqb b a) t (renamed a c t) (λ u. Equal same Φ (Recipe.bind b t) Ψ (Recipe.bind b u))
      (λ h. equal_itself (Recipe.bind b t) Φ Ψ (λ x free. each x free (λ e. free.0 (e ∙ sym (eqb-true b a h)))))
      (λ h. Equal.binds (body (eqb-false b a h)))
  equal_renamed a c (Recipe.call t u) Φ Ψ new both each =
      Equal.calls (equal_renamed a c t Φ Ψ (λ o. new (inl o)) both (λ x free. each x (inl free))) (equal_renamed a c u Φ Ψ (λ o. new (inr o)) both (λ x free. each x (inr free)))

  pub binders_rename_lem : BindersRename same
  binders_rename_lem Φ a c t new =
      let each : (x : ℕ) → Free x t → x ≢ a → NameEqual (a ∷ Φ) x (c ∷ Φ) x = λ x free n. name_beside Φ a c x n (λ e. new (free_occurs c t (rw e at free))) in
      Equal.binds (equal_renamed a c t (a ∷ Φ) (c ∷ Φ) new ((name_step Φ Φ a c a c).1 (inl (refl, refl))) each)

  -- a binder whose name is not free in the body may have any name that is not free there
  pub unused_rename : (Φ : Scope) (a c : ℕ) (t : Recipe L) → (Free a t → ⊥) → (Free c t → ⊥) → Equal same Φ (Recipe.bind a t) Φ (Recipe.bind c t)
  unused_rename Φ a c t old new =
      Equal.binds (equal_itself t (a ∷ Φ) (c ∷ Φ) (λ x free. name_beside Φ a c x (λ e. old (rw e at free)) (λ e. new (rw e at free))))

  pub covered_rename : CoveredRename same
  covered_rename Φ a c t = unused_rename Φ a c (Recipe.bind a t) (λ free. free.0 refl)
