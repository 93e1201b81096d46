-- Two filled places are equal by their forms and their parts. Assumes nothing.
use Rattle.std.proofs.Common.{◌≡◌, ℕ, ◌≤◌, ◌≢◌, ◌↔◌, ◌∷◌, Bool, true, length, refl, ap, ◌∙◌, inl, inr, arith}
use Rattle.recipe.specs.Alike.{Finished, Within}
use Rattle.recipe.specs.Common.{In}
use Rattle.recipe.specs.Equality.{Equal}
use Rattle.recipe.specs.Fillings.{Filling, Satisfies, filled, layer}
use Rattle.recipe.specs.Links.{Differ, kind_of}
use Rattle.recipe.specs.Recipes.{Part, Recipe, inside, left, right}
use Rattle.recipe.specs.Scopes.{NameEqual, Scope}
use Rattle.recipe.specs.Tables.{Form, Table, depth, parts, scope}
use Rattle.recipe.specs.Validity.{Ordered}
use Rattle.recipe.proofs.ByParts.{part_scope}
use Rattle.recipe.proofs.EqualRecipes.{equal_insides}
use Rattle.recipe.proofs.Filled.{Rising, filled_layer}
use Rattle.recipe.proofs.Shapes.{differ_apart, equal_shape}
use Rattle.nodes.proofs.LowestHolesFound.{hole_of_kind, hole_up}

-- what the equality of two recipes of one form says of their parts
module _ {L : Type 0} {same : L → L → Bool} {Φ Ψ : Scope} where
  leaves_equal : {l m : L} → Equal same Φ (Recipe.leaf l) Ψ (Recipe.leaf m) → same l m ≡ true
  leaves_equal (Equal.leaves e) = e

  names_equal : {x y : ℕ} → Equal same Φ (Recipe.name x) Ψ (Recipe.name y) → NameEqual Φ x Ψ y
  names_equal (Equal.names e) = e

  calls_equal : {t u v w : Recipe L} → Equal same Φ (Recipe.call t u) Ψ (Recipe.call v w) → Equal same Φ t Ψ v × Equal same Φ u Ψ w
  calls_equal (Equal.calls e f) = (e, f)

module _ {L : Type 0} (T : Table L) (ordered : Ordered T) (past : (p : ℕ) → T.size ≤ p → T.form p ≡ Form.nil) where
  rising : Rising T
  rising = record { up = ordered.rising; past = past }

  filled_at : (θ : Filling L) (p : ℕ) {f : Form L} → T.form p ≡ f → filled T θ p ≡ layer θ (filled T θ) f
  filled_at θ p e = filled_layer T θ rising p ∙ ap (layer θ (filled T θ)) e

  module _ (p q : ℕ) where
    -- neither of two finished places is a hole, and their parts are finished
    pub no_hole : Finished T p q → (kind_of (T.form p) ≢ 3) × (kind_of (T.form q) ≢ 3)
    no_hole finished = (
      λ e. finished p (inl (record { within = Within.here; hole = hole_of_kind (T.form p) e })),
      λ e. finished q (inr (record { within = Within.here; hole = hole_of_kind (T.form q) e })),
    )

    finished_parts : (x y : Part ℕ) → In x (parts (T.form p)) → In y (parts (T.form q)) → Finished T p q → Finished T x.at y.at
    finished_parts x y i j finished h w = finished h (elim w [ inl v ↦ inl (hole_up T x i v) | inr v ↦ inr (hole_up T y j v) ])

    -- finished places of two kinds
    pub kinds_apart : (same : L → L → Bool) → Finished T p q → kind_of (T.form p) ≢ kind_of (T.form q) → (θ : Filling L) → Satisfies same T θ (p, q) → ⊥
    kinds_apart same finished apart θ e =
        let solid = no_hole finished in
        let differ : Differ same (T.form p) (T.form q) = Differ.kinds solid.0 solid.1 apart in
        differ_apart θ (filled T θ) differ (rw (filled_layer T θ rising p, filled_layer T θ rising q) at (equal_shape e))

    -- two nils, two leaves, and two names
    pub equal_nils : (same : L → L → Bool) → T.form p ≡ Form.nil → T.form q ≡ Form.nil → (θ : Filling L) → Satisfies same T θ (p, q)
    equal_nils same e f θ = rw (filled_at θ p e, filled_at θ q f) Equal.nils

    pub equal_leaves : (same : L → L → Bool) (l m : L) → T.form p ≡ Form.leaf l → T.form q ≡ Form.leaf m → (θ : Filling L) → (same l m ≡ true) ↔ Satisfies same T θ (p, q)
    equal_leaves same l m e f θ = rw (filled_at θ p e, filled_at θ q f) (λ s. Equal.leaves s, leaves_equal)

    pub equal_names : (same : L → L → Bool) (x y : ℕ) → T.form p ≡ Form.name x → T.form q ≡ Form.name y → (θ : Filling L) → NameEqual (scope T p) x (scope T q) y ↔ Satisfies same T θ (p, q)
    equal_names same x y e f θ = rw (filled_at θ p e, filled_at θ q f) (λ s. Equal.names s, names_equal)

    -- two binds
    module _ (a b c d : ℕ) (e : T.form p ≡ Form.bind a c) (f : T.form q ≡ Form.bind b d) where
      first_in : In (inside a c) (parts (T.form p))
      first_in = rw e (inl refl)

      second_in : In (inside b d) (parts (T.form q))
      second_in = rw f (inl refl)

      pub scopes_inside : (scope T c ≡ a ∷ scope T p) × (scope T d ≡ b ∷ scope T q)
      scopes_inside = (part_scope T ordered p (inside a c) first_in, part_scope T ordered q (inside b d) second_in)

      pub finished_insides : Finished T p q → Finished T c d
      finished_insides = finished_parts (inside a c) (inside b d) first_in second_in

      pub equal_binds : (same : L → L → Bool) (θ : Filling L) → Satisfies same T θ (c, d) ↔ Satisfies same T θ (p, q)
      equal_binds same θ = rw (filled_at θ p e, filled_at θ q f, scopes_inside.0, scopes_inside.1) (λ s. Equal.binds s, equal_insides)

      pub depth_insides : depth T p ≡ depth T q → depth T c ≡ depth T d
      depth_insides one = let first = ap length scopes_inside.0 in let second = ap length scopes_inside.1 in omega arith

    -- two calls
    module _ (a b c d : ℕ) (e : T.form p ≡ Form.call a c) (f : T.form q ≡ Form.call b d) where
      left_in : In (left a) (parts (T.form p))
      left_in = rw e (inl refl)

      left_in_too : In (left b) (parts (T.form q))
      left_in_too = rw f (inl refl)

      right_in : In (right c) (parts (T.form p))
      right_in = rw e (inr (inl refl))

      right_in_too : In (right d) (parts (T.form q))
      right_in_too = rw f (inr (inl refl))

      pub scopes_left : (scope T a ≡ scope T p) × (scope T b ≡ scope T q)
      scopes_left = (part_scope T ordered p (left a) left_in, part_scope T ordered q (left b) left_in_too)

      pub scopes_right : (scope T c ≡ scope T p) × (scope T d ≡ scope T q)
      scopes_right = (part_scope T ordered p (right c) right_in, part_scope T ordered q (right d) right_in_too)

      pub finished_lefts : Finished T p q → Finished T a b
      finished_lefts = finished_parts (left a) (left b) left_in left_in_too

      pub finished_rights : Finished T p q → Finished T c d
      finished_rights = finished_parts (right c) (right d) right_in right_in_too

      pub equal_calls : (same : L → L → Bool) (θ : Filling L) → (Satisfies same T θ (a, b) × Satisfies same T θ (c, d)) ↔ Satisfies same T θ (p, q)
      equal_calls same θ = rw (filled_at θ p e, filled_at θ q f, scopes_left.0, scopes_left.1, scopes_right.0, scopes_right.1) (λ s. Equal.calls s.0 s.1, calls_equal)
