-- The laws of holders and scopes. Assumes nothing.
use Rattle.std.proofs.Common.{◌≡◌, ℕ, zero, suc, ◌<◌, ◌≤◌, Bool, true, false, cond, eqb, List, [], ◌∷◌, Some, None, Option, sym, refl, ap, ◌∙◌, inl, inr, arith}
use Rattle.std.proofs.lemmas.Option.{none-some}
use Rattle.std.proofs.lemmas.Bool.{cond-true, eq-eqb, eqb-true}
use Rattle.recipe.specs.Common.{In, first_below}
use Rattle.recipe.specs.Recipes.{Part}
use Rattle.recipe.specs.Scopes.{Scope, extended}
use Rattle.recipe.specs.Tables.{Table, Holder, parts, holds_by, holder_below, holder, scope_under, scope_within, scope}
use Rattle.recipe.specs.Validity.{Ordered}
use Rattle.recipe.proofs.Firsts.{first_none, first_found}

-- the place p as the holder of a part
abbrev pub holds : ℕ → Part ℕ → Holder
holds p x = record { place = p; under = x.under }

-- one step of `held_part`
holds_more : (p c : ℕ) (x : Part ℕ) (xs : List (Part ℕ)) (h : Holder) (b : Bool) → eqb x.at c ≡ b → cond b (Some (holds p x)) (holds_by p xs c) ≡ Some h → (holds_by p xs c ≡ Some h → (y : Part ℕ) × In y xs × (y.at ≡ c) × (h ≡ holds p y)) → (y : Part ℕ) × In y (x ∷ xs) × (y.at ≡ c) × (h ≡ holds p y)
holds_more p c x xs h true is e rest = (x, inl refl, eqb-true x.at c is, cc)
holds_more p c x xs h false is e rest = let (y, i, at, by) = rest e in (y, inr i, at, by)

-- what holds a place has it as a part
pub held_part : (p : ℕ) (xs : List (Part ℕ)) (c : ℕ) (h : Holder) → holds_by p xs c ≡ Some h → (y : Part ℕ) × In y xs × (y.at ≡ c) × (h ≡ holds p y)
held_part p [] c h e = absurd (none-some h e)
held_part p (x ∷ xs) c h e = holds_more p c x xs h (eqb x.at c) refl e (held_part p xs c h)

-- one step of `part_held`
held_later : (p c : ℕ) (y : Part ℕ) (ys : List (Part ℕ)) (b : Bool) → cond b (Some (holds p y)) (holds_by p ys c) ≡ None → (holds_by p ys c ≡ None → ⊥) → ⊥
held_later p c y ys true none rest = none-some (holds p y) (sym none)
held_later p c y ys false none rest = rest none

-- a part is held
pub part_held : (p : ℕ) (xs : List (Part ℕ)) (x : Part ℕ) → In x xs → holds_by p xs x.at ≡ None → ⊥
part_held p [] x i none = i
part_held p (y ∷ ys) x (inl e) none =
    none-some (holds p y) (sym none ∙ cond-true _ _ _ (eq-eqb y.at x.at (ap (λ z. z.at) (sym e))))
part_held p (y ∷ ys) x (inr i) none = held_later p x.at y ys (eqb y.at x.at) none (part_held p ys x i)

-- the scope below a holder, from scopes that agree at the holder
under_same : (f g : ℕ → Scope) (o : Option Holder) → ((h : Holder) → o ≡ Some h → f h.place ≡ g h.place) → scope_under f o ≡ scope_under g o
under_same f g None same = refl
under_same f g (Some h) same = ap (extended h.under) (same h refl)

module _ {L : Type 0} (T : Table L) where
  -- the holder below n is a lower place that has the place among its parts
  pub holder_tells : (n c : ℕ) (h : Holder) → holder_below T n c ≡ Some h → (p : ℕ) × (p < n) × (x : Part ℕ) × In x (parts (T.form p)) × (x.at ≡ c) × (h ≡ holds p x)
  holder_tells n c h e =
      let (p, low, at, none) = first_found (λ q. holds_by q (parts (T.form q)) c) n h e in
      let (x, i, is, by) = held_part p (parts (T.form p)) c h at in
      (p, low, x, i, is, by)

  -- a holder is lower than n
  pub holder_lower : (n c : ℕ) (h : Holder) → holder_below T n c ≡ Some h → h.place < n
  holder_lower n c h e = let (p, low, x, i, is, by) = holder_tells n c h e in rw (ap (λ k. k.place) by) low

  -- a place holds a part of its own below any higher place
  pub holder_some : (n p : ℕ) (x : Part ℕ) → p < n → In x (parts (T.form p)) → holder_below T n x.at ≡ None → ⊥
  holder_some n p x h i none = part_held p (parts (T.form p)) x i (first_none (λ q. holds_by q (parts (T.form q)) x.at) n none p h)

  -- no place is lower than the first
  root_scope : (above : ℕ → Scope) (p : ℕ) → p ≤ 0 → scope_under above (holder T p) ≡ []
  unfolding first_below
  root_scope above p h = let e : p ≡ 0 = omega arith in rw e

  -- as many holders as the place's number are enough
  within_enough : (m n p : ℕ) → p ≤ m → p ≤ n → scope_within T m p ≡ scope_within T n p
  unfolding scope_within
  within_enough zero zero p hm hn = refl
  within_enough zero (suc n) p hm hn = sym (root_scope (scope_within T n) p hm)
  within_enough (suc m) zero p hm hn = root_scope (scope_within T m) p hn
  within_enough (suc m) (suc n) p hm hn =
      under_same (scope_within T m) (scope_within T n) (holder T p) (λ h e. let low = holder_lower p p h e in within_enough m n h.place (omega arith) (omega arith))

  -- the scope of a place, from that of its holder
  pub scope_step : (p : ℕ) → scope T p ≡ scope_under (scope T) (holder T p)
  unfolding scope_within first_below
  scope_step zero = refl
  scope_step (suc k) =
      under_same (scope_within T k) (scope T) (holder T (suc k)) (λ h e. let low = holder_lower (suc k) (suc k) h e in within_enough k h.place h.place (omega arith) (omega arith))

  module _ (ordered : Ordered T) where
    -- `part_holder`, by whether there is a holder
    the_holder : (p : ℕ) (x : Part ℕ) (o : Option Holder) → In x (parts (T.form p)) → holder T x.at ≡ o → o ≡ Some (holds p x)
    the_holder p x None i e = absurd (holder_some x.at p x (ordered.rising p x i).0 i e)
    the_holder p x (Some h) i e =
        let (q, low, y, j, at, by) = holder_tells x.at x.at h e in
        let same = ordered.once q p y x j i at in
        cc (same.0, same.1)

    -- a part has the place that it is a part of as its holder, and stands under the binder that the part says
    pub part_holder : (p : ℕ) (x : Part ℕ) → In x (parts (T.form p)) → holder T x.at ≡ Some (holds p x)
    part_holder p x i = the_holder p x (holder T x.at) i refl
