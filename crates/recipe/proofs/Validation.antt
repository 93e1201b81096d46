-- A table without faults is valid, and a valid table has no faults. Assumes nothing.
use Rattle.std.proofs.Common.{◌≡◌, ℕ, zero, suc, ◌<◌, ◌≤◌, Bool, true, false, cond, ◌||◌, ltb, leb, ◌↔◌, List, [], ◌∷◌, length, get_or, is_some, is_ok, Some, None, Ok, Err, Option, Result, sym, refl, ap, ◌∙◌, subst, inl, inr, arith}
use Rattle.std.proofs.lemmas.Option.{slice_get-get_or, slice_get_within}
use Rattle.std.proofs.lemmas.Bool.{cases_order, false≢true, not-false, not_from_true, or_parts, or_from, ltb-false, leb-false, eqb-false, le-ltb, lt-leb, ne_eqb}
use Rattle.std.proofs.lemmas.Bool.Decides.{nat_tests}
use Rattle.std.specs.List.{slice_get}
use Rattle.recipe.specs.declared.places.Place.{Place}
use Rattle.recipe.specs.declared.refusals.Refusal.{Refusal}
use Rattle.recipe.specs.Common.{In, first_below}
use Rattle.recipe.specs.Recipes.{Part, left, right}
use Rattle.recipe.specs.Tables.{Table, Form, Holder, parts, form_at, table_of, holder_below, depth}
use Rattle.recipe.specs.Checking.{numbers_fit, twice, outside, bad_part, held_twice, too_deep, fault_in, fault_at, needed, unless, checked}
use Rattle.recipe.specs.Validity.{Fits, Ordered, Valid}
use Rattle.recipe.proofs.Faults.{past, none_passes, passes_none, Clear, clear, faultless}
use Rattle.recipe.proofs.Firsts.{not_some, first_none, none_first}
use Rattle.recipe.proofs.Holders.{holder_tells, holder_some}

-- a record by its kind and numbers
abbrev place : ℕ → ℕ → ℕ → Place
place k a b = record { kind = k; a = a; b = b }

-- numbers that fit, kind by kind
fits_at : (many a b k : ℕ) → k ≤ 5 → numbers_fit many (place k a b) ≡ true → Fits many (place k a b)
fits_at many a b zero h fit = grind (arith, nat_tests)
fits_at many a b (suc zero) h fit = grind (arith, nat_tests)
fits_at many a b (suc (suc zero)) h fit = grind (arith, nat_tests)
fits_at many a b (suc (suc (suc zero))) h fit = grind (arith, nat_tests)
fits_at many a b (suc (suc (suc (suc zero)))) h fit = grind (arith, nat_tests)
fits_at many a b (suc (suc (suc (suc (suc zero))))) h fit = grind (arith, nat_tests)
fits_at many a b (suc (suc (suc (suc (suc (suc k)))))) h fit = absurd (omega arith)

-- the same, back
fit_at : (many a b k : ℕ) → Fits many (place k a b) → numbers_fit many (place k a b) ≡ true
fit_at many a b zero f = grind (arith, nat_tests, f)
fit_at many a b (suc zero) f = grind (arith, nat_tests, f)
fit_at many a b (suc (suc zero)) f = grind (arith, nat_tests, f)
fit_at many a b (suc (suc (suc zero))) f = grind (arith, nat_tests, f)
fit_at many a b (suc (suc (suc (suc zero)))) f = grind (arith, nat_tests, f)
fit_at many a b (suc (suc (suc (suc (suc zero))))) f = refl
fit_at many a b (suc (suc (suc (suc (suc (suc k)))))) f = refl

-- parts at one place are one part, unless two parts are one place
one_part : (xs : List (Part ℕ)) (x y : Part ℕ) → twice xs ≡ false → In x xs → In y xs → x.at ≡ y.at → x ≡ y
one_part [] x y two i j e = absurd i
one_part (z ∷ zs) x y two (inl i) (inl j) e = i ∙ sym j
one_part (z ∷ zs) x y two (inl i) (inr j) e =
    absurd (eqb-false y.at z.at (none_passes _ zs (or_parts _ _ two).0 y j) (sym e ∙ ap (λ w. w.at) i))
one_part (z ∷ zs) x y two (inr i) (inl j) e =
    absurd (eqb-false x.at z.at (none_passes _ zs (or_parts _ _ two).0 x i) (e ∙ ap (λ w. w.at) j))
one_part (z ∷ zs) x y two (inr i) (inr j) e = one_part zs x y (or_parts _ _ two).1 i j e

-- no two parts are one place, if parts at one place are one part
not_twice : {L : Type 0} (f : Form L) → ((x y : Part ℕ) → In x (parts f) → In y (parts f) → x.at ≡ y.at → x ≡ y) → twice (parts f) ≡ false
not_twice Form.nil one = refl
not_twice (Form.leaf l) one = refl
not_twice (Form.name x) one = refl
not_twice (Form.hole h) one = refl
not_twice (Form.bind a c) one = refl
not_twice (Form.call c d) one =
    let differ : d ≡ c → ⊥ = λ e. let step : ◌≡◌ {A = ℕ} 0 1 = ap (λ x. x.step) (one (left c) (right d) (inl refl) (inr (inl refl)) (sym e)) in omega arith in
    rw (ne_eqb d c differ)

-- what has a part is a record
record_at : {L : Type 0} (ls : List L) (x : Part ℕ) (o : Option Place) → In x (parts (form_at ls o)) → (r : Place) × (o ≡ Some r)
record_at ls x None i = absurd i
record_at ls x (Some r) i = (r, refl)

module _ {L : Type 0} (places : List Place) (ls : List L) where
  abbrev T : Table L
  T = table_of places ls

  module _ (none : (p : ℕ) → p < length places → fault_at places ls p ≡ None) where
    -- the tests of a record
    tests : (p : ℕ) (r : Place) → slice_get places p ≡ Some r → Clear (length ls) r (bad_part T p) (held_twice T p) (too_deep T p)
    tests p r at = clear (length ls) p r _ _ _ (ap (fault_in T (length ls) p) (sym at) ∙ none p (slice_get_within places p r at))

    -- the tests of a place that has a part
    tests_of : (p : ℕ) (x : Part ℕ) → In x (parts (T.form p)) → (r : Place) × Clear (length ls) r (bad_part T p) (held_twice T p) (too_deep T p)
    tests_of p x i = let (r, at) = record_at ls x (slice_get places p) i in (r, tests p r at)

    -- no place has a part of a lower place
    apart : (p q : ℕ) (x y : Part ℕ) → p < q → In x (parts (T.form p)) → In y (parts (T.form q)) → x.at ≡ y.at → ⊥
    apart p q x y low i j e =
        let (r, c) = tests_of q y j in
        let free = none_passes (λ z. is_some (holder_below T q z.at)) (parts (T.form q)) (or_parts _ _ c.once).0 y j in
        holder_some T q p x low i (ap (holder_below T q) e ∙ not_some (holder_below T q y.at) free)

    -- no place has two parts at one place
    same_place : (p q : ℕ) (x y : Part ℕ) → p ≡ q → In x (parts (T.form p)) → In y (parts (T.form q)) → x.at ≡ y.at → x ≡ y
    same_place p q x y is i j e =
        let (r, c) = tests_of q y j in
        one_part (parts (T.form q)) x y (or_parts _ _ c.once).1 (subst (λ k. In x (parts (T.form k))) is i) j e

    -- a table without faults is ordered
    pub in_order : Ordered T
    in_order = record {
      rising = λ p x i.
          let (r, c) = tests_of p x i in
          let (low, high) = or_parts (leb x.at p) _ (none_passes (outside p (length places)) (parts (T.form p)) c.rising x i) in
          (leb-false x.at p low, leb-false (length places) x.at high);
      once = λ p q x y i j e.
          elim (cases_order p q) [
            | inl is ↦ (is, same_place p q x y is i j e)
            | inr (inl low) ↦ absurd (apart p q x y low i j e)
            | inr (inr low) ↦ absurd (apart q p y x low j i (sym e))
          ];
      shallow = λ p h. ltb-false 64 (depth T p) (tests p _ (slice_get-get_or places p past h)).shallow;
    }

    -- a table without faults is valid, if it is not too large
    pub no_fault_valid : length places ≤ 512 → length ls ≤ 512 → Valid places ls
    no_fault_valid few_places few_leaves = record {
      few_places = few_places;
      few_leaves = few_leaves;
      fits = λ p x at.
          let c = tests p x at in
          fits_at (length ls) x.a x.b x.kind (ltb-false 5 x.kind c.known) (not-false (numbers_fit (length ls) x) c.fit);
      ordered = in_order;
    }

  module _ (valid : Valid places ls) where
    -- no lower place holds a part
    unheld : (p : ℕ) (x : Part ℕ) (o : Option Holder) → In x (parts (T.form p)) → holder_below T p x.at ≡ o → is_some o ≡ false
    unheld p x None i e = refl
    unheld p x (Some h) i e =
        let (q, low, y, j, at, by) = holder_tells T p x.at h e in
        let same : q ≡ p = (valid.ordered.once q p y x j i at).0 in
        absurd (omega arith)

    -- a valid table has no fault
    pub valid_no_fault : (p : ℕ) → p < length places → fault_at places ls p ≡ None
    valid_no_fault p h =
        let x = get_or places p past in
        let at = slice_get-get_or places p past h in
        let fits = valid.fits p x at in
        let xs = parts (T.form p) in
        ap (fault_in T (length ls) p) at
        ∙ faultless (length ls) p x (bad_part T p) (held_twice T p) (too_deep T p) (record {
          known = le-ltb 5 x.kind fits.kinds;
          fit = not_from_true (numbers_fit (length ls) x) (fit_at (length ls) x.a x.b x.kind fits);
          rising = passes_none (outside p (length places)) xs (λ y i. let r = valid.ordered.rising p y i in or_from _ _ (lt-leb y.at p r.0) (lt-leb (length places) y.at r.1));
          once = or_from _ _
              (passes_none (λ y. is_some (holder_below T p y.at)) xs (λ y i. unheld p y (holder_below T p y.at) i refl))
              (not_twice (T.form p) (λ y z i j e. (valid.ordered.once p p y z i j e).1));
          shallow = le-ltb 64 (depth T p) (valid.ordered.shallow p h);
        })

  -- an answer that is a number has no refusal behind it
  ok_parts : (large : Bool) (fault : Option Refusal) (n : ℕ) → is_ok (cond large (Err Refusal.TooLarge) (unless n fault)) ≡ true → (large ≡ false) × (fault ≡ None)
  ok_parts true fault n ok = absurd (false≢true ok)
  ok_parts false None n ok = (refl, refl)
  ok_parts false (Some r) n ok = absurd (false≢true ok)

  -- where `check` accepts, the table is not too large and no place has a fault
  no_refusal : is_ok (checked places ls) ≡ true → ((ltb 512 (length places) || ltb 512 (length ls)) ≡ false) × (first_below (fault_at places ls) (length places) ≡ None)
  no_refusal = ok_parts (ltb 512 (length places) || ltb 512 (length ls)) (first_below (fault_at places ls) (length places)) (needed places)

  -- and the answer is the memory needed
  pub checked_needs : is_ok (checked places ls) ≡ true → checked places ls ≡ Ok (needed places)
  checked_needs ok = let (small, none) = no_refusal ok in rw (small, none)

  -- the answer is a number exactly when the table is valid
  pub checked_valid : (is_ok (checked places ls) ≡ true) ↔ Valid places ls
  checked_valid = (
    λ ok.
        let (small, none) = no_refusal ok in
        let (few_places, few_leaves) = or_parts (ltb 512 (length places)) _ small in
        no_fault_valid (first_none (fault_at places ls) (length places) none) (ltb-false 512 (length places) few_places) (ltb-false 512 (length ls) few_leaves),
    λ valid.
        rw (or_from _ _ (le-ltb 512 (length places) valid.few_places) (le-ltb 512 (length ls) valid.few_leaves), none_first (fault_at places ls) (length places) (valid_no_fault valid)),
  )

  -- the same, of any answer that is the one of `check`
  pub answer_valid : (r : Result ℕ Refusal) → r ≡ checked places ls → (is_ok r ≡ true) ↔ Valid places ls
  answer_valid r e = rw e checked_valid
