-- Whether two places are alike depends on leaves by their sameness alone. Assumes nothing.
use Rattle.std.proofs.Common.{◌≡◌, ℕ, zero, suc, Bool, List, Result, sym, refl, ◌∙◌, subst, inl, inr}
use Rattle.recipe.specs.declared.refusals.Refusal.{Refusal}
use Rattle.recipe.specs.Alike.{Alikes, Finished, HoleAmong, HoleWithin, Within, alike_fault}
use Rattle.recipe.specs.Common.{In}
use Rattle.recipe.specs.Equality.{Equal}
use Rattle.recipe.specs.Fillings.{Filling, Satisfies, filled, filled_within, layer}
use Rattle.recipe.specs.Recipes.{Part, Recipe, left, right, inside}
use Rattle.recipe.specs.Scopes.{Scope}
use Rattle.recipe.specs.Tables.{Form, Table, parts}
use Rattle.closure.specs.OtherLeaves.{SameForm, SameTables}
use Rattle.closure.proofs.Known.{least_over}
use Rattle.closure.proofs.SameParts.{SameParts, part_over, same_scope}

-- two recipes that differ in their leaves at most, and have leaves of one place of the two tables
data Copied {L M : Type 0} (T : Table L) (U : Table M) : Recipe L → Recipe M → Type 0 where
  nils : Copied T U Recipe.nil Recipe.nil
  leaves : {l : L} {k : M} (p : ℕ) → T.form p ≡ Form.leaf l → U.form p ≡ Form.leaf k → Copied T U (Recipe.leaf l) (Recipe.leaf k)
  names : {x : ℕ} → Copied T U (Recipe.name x) (Recipe.name x)
  binds : {a : ℕ} {t : Recipe L} {u : Recipe M} → Copied T U t u → Copied T U (Recipe.bind a t) (Recipe.bind a u)
  calls : {t v : Recipe L} {u w : Recipe M} → Copied T U t u → Copied T U v w → Copied T U (Recipe.call t v) (Recipe.call u w)

module _ {L M : Type 0} {T : Table L} {U : Table M} where
  -- the layers of two forms of one place that are no holes
  copied_layer : (p : ℕ) {f : Form L} {g : Form M} (θ : Filling L) (η : Filling M) (P : ℕ → Recipe L) (Q : ℕ → Recipe M) → T.form p ≡ f → U.form p ≡ g → SameForm f g → ((k : ℕ) → f ≡ Form.hole k → ⊥) → ((x : Part ℕ) → In x (parts f) → Copied T U (P x.at) (Q x.at)) → Copied T U (layer θ P f) (layer η Q g)
  copied_layer p θ η P Q d e SameForm.nils solid part = Copied.nils
  copied_layer p θ η P Q d e SameForm.leaves solid part = Copied.leaves p d e
  copied_layer p θ η P Q d e SameForm.names solid part = Copied.names
  copied_layer p θ η P Q d e (SameForm.holes {h = h}) solid part = absurd (solid h refl)
  copied_layer p θ η P Q d e (SameForm.binds {a = a} {c = c}) solid part = Copied.binds (part (inside a c) (inl refl))
  copied_layer p θ η P Q d e (SameForm.calls {c = c} {d = b}) solid part = Copied.calls (part (left c) (inl refl)) (part (right b) (inr (inl refl)))

  -- so are the texts of a finished place
  copied_within : ((p : ℕ) → SameForm (T.form p) (U.form p)) → (θ : Filling L) (η : Filling M) (n p : ℕ) → ((h : ℕ) → HoleWithin T p h → ⊥) → Copied T U (filled_within T θ n p) (filled_within U η n p)
  unfolding filled_within
  copied_within forms θ η zero p finished = Copied.nils
  copied_within forms θ η (suc n) p finished =
      copied_layer p θ η (filled_within T θ n) (filled_within U η n) refl refl (forms p) (λ k e. finished p (record { within = Within.here; hole = (k, e) }))
      (λ x i. copied_within forms θ η n x.at (λ h w. finished h (record { within = Within.under x i w.within; hole = w.hole })))

  -- and such recipes are equal in the one table where they are in the other
  copied_equal : {same : L → L → Bool} {other : M → M → Bool} {Φ Ψ : Scope} {t u : Recipe L} {v w : Recipe M} → ((p q : ℕ) (l n : L) (k o : M) → T.form p ≡ Form.leaf l → T.form q ≡ Form.leaf n → U.form p ≡ Form.leaf k → U.form q ≡ Form.leaf o → same l n ≡ other k o) → Equal same Φ t Ψ u → Copied T U t v → Copied T U u w → Equal other Φ v Ψ w
  copied_equal same_leaves Equal.nils Copied.nils Copied.nils = Equal.nils
  copied_equal same_leaves (Equal.leaves s) (Copied.leaves p d e) (Copied.leaves q f g) = Equal.leaves (sym (same_leaves p q _ _ _ _ d f e g) ∙ s)
  copied_equal same_leaves (Equal.names s) Copied.names Copied.names = Equal.names s
  copied_equal same_leaves (Equal.binds s) (Copied.binds c) (Copied.binds d) = Equal.binds (copied_equal same_leaves s c d)
  copied_equal same_leaves (Equal.calls s r) (Copied.calls c e) (Copied.calls d f) = Equal.calls (copied_equal same_leaves s c d) (copied_equal same_leaves r e f)

  within_over : (there : SameParts T U) {p q : ℕ} → Within T p q → Within U p q
  within_over there Within.here = Within.here
  within_over there (Within.under {p = p} x i w) = Within.under x (part_over there p x i) (within_over there w)

module _ {L M : Type 0} where
  hole_over : {f : Form L} {g : Form M} {h : ℕ} → SameForm f g → f ≡ Form.hole h → g ≡ Form.hole h
  hole_over SameForm.holes e = cc
  hole_over a e = cc

module _ {L M : Type 0} {same : L → L → Bool} {other : M → M → Bool} {T : Table L} {U : Table M} {ls : List L} {ks : List M} (alike : SameTables same other T U ls ks) (there : SameParts T U) where
  hole_within_over : (p h : ℕ) → HoleWithin T p h → HoleWithin U p h
  hole_within_over p h w = record { within = within_over there w.within; hole = (w.hole.0, hole_over (alike.forms h) w.hole.1) }

  hole_among_over : (p q h : ℕ) → HoleAmong T p q h → HoleAmong U p q h
  hole_among_over p q h (inl w) = inl (hole_within_over p h w)
  hole_among_over p q h (inr w) = inr (hole_within_over q h w)

  -- a filling of the one table makes finished places equal where one of the other does
  satisfied_over : (p q : ℕ) (θ : Filling L) (η : Filling M) → Finished T p q → Satisfies same T θ (p, q) → Satisfies other U η (p, q)
  satisfied_over p q θ η finished e =
      let texts : (u : ℕ) → ((h : ℕ) → HoleWithin T u h → ⊥) → Copied T U (filled T θ u) (filled U η u) = λ u none. subst (λ n. Copied T U (filled T θ u) (filled_within U η n u)) alike.size (copied_within alike.forms θ η T.size u none) in
      rw (← same_scope there p, ← same_scope there q) (copied_equal alike.leaves e (texts p (λ h w. finished h (inl w))) (texts q (λ h w. finished h (inr w))))

  same_alike_fault : (p q : ℕ) → alike_fault T p q ≡ alike_fault U p q
  same_alike_fault p q = rw (same_scope there p, same_scope there q, alike.size)

-- what is right on the one table is right on the other
module _ {L M : Type 0} {same : L → L → Bool} {other : M → M → Bool} {T : Table L} {U : Table M} {ls : List L} {ks : List M} (alike : SameTables same other T U ls ks) (turned : SameTables other same U T ks ls) (there : SameParts T U) (back : SameParts U T) where
  finished_over : (p q : ℕ) → Finished T p q → Finished U p q
  finished_over p q finished h w = finished h (hole_among_over turned back p q h w)

  pub alikes_over : (p q : ℕ) (r : Result Bool Refusal) → Alikes same T p q r → Alikes other U p q r
  alikes_over p q r (Alikes.refused e) = Alikes.refused (sym (same_alike_fault alike there p q) ∙ e)
  alikes_over p q r (Alikes.unfinished none a) =
      Alikes.unfinished (sym (same_alike_fault alike there p q) ∙ none) (least_over (hole_among_over alike there p q) (hole_among_over turned back p q) a)
  alikes_over p q r (Alikes.equal none f a) =
      Alikes.equal (sym (same_alike_fault alike there p q) ∙ none) (finished_over p q f) (λ η. satisfied_over alike there p q (λ h. Recipe.nil) η f (a (λ h. Recipe.nil)))
  alikes_over p q r (Alikes.different none f a) =
      Alikes.different (sym (same_alike_fault alike there p q) ∙ none) (finished_over p q f) (λ η e. a (λ h. Recipe.nil) (satisfied_over turned back p q η (λ h. Recipe.nil) (finished_over p q f) e))
