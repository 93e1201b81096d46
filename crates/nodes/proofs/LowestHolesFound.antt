-- The lowest hole at or under a place is the lowest of those under its parts, or the place itself. Assumes nothing.
use Rattle.std.proofs.Common.{◌≡◌, ℕ, ◌≤◌, ◌≢◌, ◌⊎◌, Bool, true, false, cond, nat_lt, Some, None, Option, refl, ap, inl, inr, arith, ltb-true, ltb-false}
use Rattle.recipe.specs.Alike.{HoleWithin, Within}
use Rattle.recipe.specs.Common.{In, Least}
use Rattle.recipe.specs.Links.{kind_of}
use Rattle.recipe.specs.Recipes.{Part, inside, left, right}
use Rattle.recipe.specs.Tables.{Form, Table, parts}
use Rattle.recipe.specs.Validity.{Ordered}
use Rattle.nodes.specs.LowestHoles.{FindsHole, LeastIfAny, lower_of}

-- a number is the least of two properties that are one
find_over : {P Q : ℕ → Type 0} → ((k : ℕ) → P k → Q k) → ((k : ℕ) → Q k → P k) → (r : Option ℕ) → LeastIfAny P r → LeastIfAny Q r
find_over to from None none = λ k q. none k (from k q)
find_over to from (Some n) least = record { has = to n least.has; lowest = λ k q. least.lowest k (from k q) }

-- the lower of the least numbers of two properties is the least that has either
lower_by : {P Q : ℕ → Type 0} {a b : ℕ} (t : Bool) → nat_lt b a ≡ t → Least P a → Least Q b → Least (λ k. P k ⊎ Q k) (cond t b a)
lower_by {a = a} {b = b} true e one two = let lt = ltb-true b a e in record {
  has = inr two.has;
  lowest = λ k h. elim h [ inl p ↦ (let low = one.lowest k p in omega arith) | inr q ↦ two.lowest k q ];
}
lower_by {a = a} {b = b} false e one two = let le = ltb-false b a e in record {
  has = inl one.has;
  lowest = λ k h. elim h [ inl p ↦ one.lowest k p | inr q ↦ (let low = two.lowest k q in omega arith) ];
}

pub lower_least : (P Q : ℕ → Type 0) (a b : Option ℕ) → LeastIfAny P a → LeastIfAny Q b → LeastIfAny (λ k. P k ⊎ Q k) (lower_of a b)
lower_least P Q None None none neither = λ k h. elim h [ inl p ↦ none k p | inr q ↦ neither k q ]
lower_least P Q None (Some b) none two = record { has = inr two.has; lowest = λ k h. elim h [ inl p ↦ absurd (none k p) | inr q ↦ two.lowest k q ] }
lower_least P Q (Some a) None one none = record { has = inl one.has; lowest = λ k h. elim h [ inl p ↦ one.lowest k p | inr q ↦ absurd (none k q) ] }
lower_least P Q (Some a) (Some b) one two = lower_by (nat_lt b a) refl one two

-- a form of the kind of holes is one
pub hole_of_kind : {L : Type 0} (f : Form L) → kind_of f ≡ 3 → (k : ℕ) × (f ≡ Form.hole k)
hole_of_kind Form.nil e = absurd (omega arith)
hole_of_kind (Form.leaf l) e = absurd (omega arith)
hole_of_kind (Form.name x) e = absurd (omega arith)
hole_of_kind (Form.hole h) e = (h, refl)
hole_of_kind (Form.bind a c) e = absurd (omega arith)
hole_of_kind (Form.call c d) e = absurd (omega arith)

module _ {L : Type 0} (T : Table L) where
  -- a hole under a part is under the place
  pub hole_up : {p h : ℕ} (x : Part ℕ) → In x (parts (T.form p)) → HoleWithin T x.at h → HoleWithin T p h
  hole_up x i w = record { within = Within.under x i w.within; hole = w.hole }

  -- a hole at or under a place that is none is under a part
  step_down : {p h : ℕ} → ((k : ℕ) → T.form p ≡ Form.hole k → ⊥) → Within T p h → (k : ℕ) × (T.form h ≡ Form.hole k) → (x : Part ℕ) × In x (parts (T.form p)) × HoleWithin T x.at h
  step_down solid Within.here hole = absurd (solid hole.0 hole.1)
  step_down solid (Within.under x i w) hole = (x, i, record { within = w; hole = hole })

  solid_by : {p : ℕ} → kind_of (T.form p) ≢ 3 → (k : ℕ) → T.form p ≡ Form.hole k → ⊥
  solid_by n k e = n (ap kind_of e)

  hole_down : {p h : ℕ} → kind_of (T.form p) ≢ 3 → HoleWithin T p h → (x : Part ℕ) × In x (parts (T.form p)) × HoleWithin T x.at h
  hole_down n w = step_down (solid_by n) w.within w.hole

  -- what is at or under a place is no lower
  within_above : Ordered T → {p q : ℕ} → Within T p q → p ≤ q
  within_above ordered Within.here = omega arith
  within_above ordered (Within.under {p = p} x i w) = let up = ordered.rising p x i in let above = within_above ordered w in omega arith

  -- a hole
  pub hole_here : Ordered T → (p : ℕ) → kind_of (T.form p) ≡ 3 → FindsHole T p (Some p)
  hole_here ordered p e = record {
    has = record { within = Within.here; hole = hole_of_kind (T.form p) e };
    lowest = λ h w. within_above ordered w.within;
  }

  -- a bind, and a call
  pub hole_inside : (p a c : ℕ) (r : Option ℕ) → T.form p ≡ Form.bind a c → FindsHole T c r → FindsHole T p r
  hole_inside p a c r e = find_over (λ h w. hole_up (inside a c) (rw e (inl refl)) w) (λ h w. into h (hole_down (λ k. absurd (solid k)) w)) r
    where
      solid : kind_of (T.form p) ≡ 3 → ⊥
      solid k = let four = ap kind_of e in omega arith

      into : (h : ℕ) → (x : Part ℕ) × In x (parts (T.form p)) × HoleWithin T x.at h → HoleWithin T c h
      into h (x, i, w) = elim (rw e at i) [ inl s ↦ rw s at w | inr none ↦ absurd none ]

  pub hole_in_call : (p c d : ℕ) (r : Option ℕ) → T.form p ≡ Form.call c d → LeastIfAny (λ h. HoleWithin T c h ⊎ HoleWithin T d h) r → FindsHole T p r
  hole_in_call p c d r e = find_over up (λ h w. into h (hole_down (λ k. absurd (solid k)) w)) r
    where
      solid : kind_of (T.form p) ≡ 3 → ⊥
      solid k = let five = ap kind_of e in omega arith

      up : (h : ℕ) → HoleWithin T c h ⊎ HoleWithin T d h → HoleWithin T p h
      up h (inl w) = hole_up (left c) (rw e (inl refl)) w
      up h (inr w) = hole_up (right d) (rw e (inr (inl refl))) w

      into : (h : ℕ) → (x : Part ℕ) × In x (parts (T.form p)) × HoleWithin T x.at h → HoleWithin T c h ⊎ HoleWithin T d h
      into h (x, i, w) = elim (rw e at i) [ inl s ↦ inl (rw s at w) | inr j ↦ elim j [ inl s ↦ inr (rw s at w) | inr none ↦ absurd none ] ]
