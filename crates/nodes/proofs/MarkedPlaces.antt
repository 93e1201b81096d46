-- The marks of the lowest places, and what they tell. Assumes nothing.
use Rattle.std.proofs.Common.{◌≡◌, ◌≢◌, ◌⊎◌, ℕ, ◌+◌, ◌<◌, List, Some, None, Option, length, get_or, set, nat_eq, refl, sym, ap, ◌∙◌, inl, inr, arith, get_or-set_other, get_or-set_same}
use Rattle.std.proofs.Math.Numerals.{add-one}
use Rattle.std.proofs.lemmas.Bool.{cases_eq}
use Rattle.std.proofs.lemmas.Option.{none-some}
use Rattle.recipe.specs.Links.{Differ, kind_of}
use Rattle.recipe.proofs.Shapes.{differ_itself, differ_no_holes}
use Rattle.closure.proofs.Differing.{differ_third}
use Rattle.forest.specs.Rows.{node_or_none, root}
use Rattle.nodes.specs.Opposed.{Marked, Opposed, marked_for}
use Rattle.nodes.specs.Records.{written_form}
use Rattle.nodes.proofs.LeafNumbers.{nat_sameness}

-- one place, or none
some_or_none : (o : Option ℕ) → (o ≡ None) ⊎ ((f : ℕ) × (o ≡ Some f))
some_or_none None = inl refl
some_or_none (Some f) = inr (f, refl)

module _ (rows ws : List ℕ) where
  -- no place is marked at first
  pub marked_none : (marks : List ℕ) → ((r : ℕ) → get_or marks r 0 ≡ 0) → Marked rows ws 0 marks
  marked_none marks blank = record {
    solid = λ r f e. absurd (none-some f (sym (ap node_or_none (blank r)) ∙ e));
    holes = λ k h e. absurd (omega arith);
    agree = λ k f h e d. absurd (omega arith);
  }

  -- a place more that is a hole, or does not differ from the place that is marked for its root
  pub marked_hole : (n : ℕ) (marks : List ℕ) → Marked rows ws n marks → kind_of (written_form ws n) ≡ 3 → Marked rows ws (n + 1) marks
  marked_hole n marks m hole = record {
    solid = λ r f e. let (low, at, solid) = m.solid r f e in (omega arith, at, solid);
    holes = λ k h e. elim (cases_eq k n) [ inl is ↦ rw is hole | inr other ↦ m.holes k (omega arith) e ];
    agree = λ k f h e d. elim (cases_eq k n) [ inl is ↦ (differ_no_holes d).1 (rw is hole) | inr other ↦ m.agree k f (omega arith) e d ];
  }

  pub marked_same : (n f : ℕ) (marks : List ℕ) → Marked rows ws n marks → marked_for marks (root rows n) ≡ Some f → (Differ nat_eq (written_form ws f) (written_form ws n) → ⊥) → Marked rows ws (n + 1) marks
  marked_same n f marks m is same = record {
    solid = λ r g e. let (low, at, solid) = m.solid r g e in (omega arith, at, solid);
    holes = λ k h e. elim (cases_eq k n) [
      | inl one ↦ absurd (none-some f (sym (rw one at e) ∙ is))
      | inr other ↦ m.holes k (omega arith) e
    ];
    agree = λ k g h e d. elim (cases_eq k n) [
      | inl one ↦ let two : g ≡ f = grind arith in same (rw (← two, ← one) d)
      | inr other ↦ m.agree k g (omega arith) e d
    ];
  }

  -- a place more that is no hole, and is marked
  pub marked_new : (n : ℕ) (marks : List ℕ) → Marked rows ws n marks → marked_for marks (root rows n) ≡ None → (kind_of (written_form ws n) ≢ 3) → root rows n < length marks → Marked rows ws (n + 1) (set marks (root rows n) (n + 1))
  marked_new n marks m is solid room = record {
    solid = λ r f e. elim (cases_eq r (root rows n)) [
      | inl one ↦ let two : f ≡ n = here r f one e in (omega arith, rw (two, one) refl, rw two solid)
      | inr other ↦ let (low, at, no_hole) = m.solid r f (sym (there r other) ∙ e) in (omega arith, at, no_hole)
    ];
    holes = λ k h e. elim (cases_eq (root rows k) (root rows n)) [
      | inl one ↦ absurd (none-some n (sym e ∙ marked (root rows k) one))
      | inr other ↦ m.holes k (elsewhere k h other) (sym (there (root rows k) other) ∙ e)
    ];
    agree = λ k f h e d. elim (cases_eq (root rows k) (root rows n)) [
      | inl one ↦ elim (cases_eq k n) [
        | inl it ↦ let two : f ≡ n = here (root rows k) f one e in differ_itself nat_sameness (written_form ws n) (rw (two, it) at d)
        | inr less ↦ (differ_no_holes d).1 (m.holes k (omega arith) (rw one is))
      ]
      | inr other ↦ m.agree k f (elsewhere k h other) (sym (there (root rows k) other) ∙ e) d
    ];
  }
    where
      marked : (r : ℕ) → r ≡ root rows n → marked_for (set marks (root rows n) (n + 1)) r ≡ Some n
      marked r e = rw (e, get_or-set_same, add-one) refl

      here : (r f : ℕ) → r ≡ root rows n → marked_for (set marks (root rows n) (n + 1)) r ≡ Some f → f ≡ n
      here r f one e = let two : Some f ≡ Some n = sym e ∙ marked r one in cc

      there : (r : ℕ) → r ≢ root rows n → marked_for (set marks (root rows n) (n + 1)) r ≡ marked_for marks r
      there r ne = rw get_or-set_other refl

      elsewhere : (k : ℕ) → k < n + 1 → root rows k ≢ root rows n → k < n
      elsewhere k h ne = elim (cases_eq k n) [ inl e ↦ absurd (ne (ap (root rows) e)) | inr other ↦ omega arith ]

  -- where all places are marked, none clash
  pub marked_all : (n p q : ℕ) (marks : List ℕ) → Marked rows ws n marks → p < n → q < n → Opposed rows ws p q → ⊥
  marked_all n p q marks m h k o =
      elim (some_or_none (marked_for marks (root rows p))) [
        | inl none ↦ (differ_no_holes o.differ).0 (m.holes p h none)
        | inr (f, is) ↦ elim (differ_third nat_sameness (written_form ws f) (m.solid (root rows p) f is).2 o.differ) [
          | inl d ↦ m.agree p f h is d
          | inr d ↦ m.agree q f k (rw (← o.one_root) is) d
        ]
      ]
