-- The roots that are collected are the roots. Assumes nothing.
use Rattle.std.proofs.Common.{◌≡◌, ℕ, zero, suc, ◌+◌, ◌<◌, true, false, ◌⊎◌, List, [], ◌∷◌, ◌++◌, length, slice_index, inl, inr, refl, ap, ◌∙◌, arith, length-append}
use Rattle.std.proofs.lemmas.Bool.{both_ways, cases_lt}
use Rattle.std.proofs.Math.ListN.{get_or-append}
use Rattle.std.proofs.Math.Seq.{get_or-append_seam}
use Rattle.std.specs.List.Sorted.{IsStrictlyIncreasing}
use Rattle.recipe.specs.Common.{In}
use Rattle.recipe.specs.declared.places.Place.{Place}
use Rattle.listing.specs.Roots.{RootsBelow, held_in}

-- a list of one more has what it had, and the last
in_more : (xs : List ℕ) (x p : ℕ) → In p (xs ++ (x ∷ [])) → (p ≡ x) ⊎ In p xs
in_more [] x p (inl e) = inl e
in_more [] x p (inr i) = absurd i
in_more (y ∷ xs) x p (inl e) = inr (inl e)
in_more (y ∷ xs) x p (inr i) = elim (in_more xs x p i) [ inl e ↦ inl e | inr j ↦ inr (inr j) ]

in_front : (xs ys : List ℕ) (p : ℕ) → In p xs → In p (xs ++ ys)
in_front [] ys p i = elim i [ ]
in_front (x ∷ xs) ys p (inl e) = inl e
in_front (x ∷ xs) ys p (inr i) = inr (in_front xs ys p i)

in_last : (xs : List ℕ) (x : ℕ) → In x (xs ++ (x ∷ []))
in_last [] x = inl refl
in_last (y ∷ xs) x = inr (in_last xs x)

-- what stands at an index is in the list
at_in : (xs : List ℕ) (k : ℕ) → k < length xs → In (slice_index xs k) xs
at_in [] k low = absurd (omega arith)
at_in (x ∷ xs) zero low = inl refl
at_in (x ∷ xs) (suc k) low = inr (at_in xs k (omega arith))

-- a higher number at the end keeps the order
rising_more : (xs : List ℕ) (x : ℕ) → IsStrictlyIncreasing xs → ((p : ℕ) → In p xs → p < x) → IsStrictlyIncreasing (xs ++ (x ∷ []))
rising_more xs x rising below k low =
    let many : k + 1 < length xs + 1 = omega (arith, low, length-append xs (x ∷ [])) in
    elim (cases_lt (k + 1) (length xs)) [
      | inl inside ↦
          let before : slice_index (xs ++ (x ∷ [])) k ≡ slice_index xs k = get_or-append xs (x ∷ []) 0 k (omega arith) in
          let after : slice_index (xs ++ (x ∷ [])) (k + 1) ≡ slice_index xs (k + 1) = get_or-append xs (x ∷ []) 0 (k + 1) inside in
          omega (arith, before, after, rising k inside)
      | inr outside ↦
          let within : k < length xs = omega arith in
          let before : slice_index (xs ++ (x ∷ [])) k ≡ slice_index xs k = get_or-append xs (x ∷ []) 0 k within in
          let last : k + 1 ≡ length xs = omega arith in
          let after : slice_index (xs ++ (x ∷ [])) (k + 1) ≡ x = ap (λ n. slice_index (xs ++ (x ∷ [])) n) last ∙ get_or-append_seam xs x [] 0 in
          omega (arith, before, after, below (slice_index xs k) (at_in xs k within))
    ]

module _ {places : List Place} {n : ℕ} {rs : List ℕ} (so : RootsBelow places n rs) where
  pub root_more : held_in places n ≡ false → RootsBelow places (n + 1) (rs ++ (n ∷ []))
  root_more free = record {
    only = λ p. (
      λ h. elim (cases_lt p n) [ inl low ↦ in_front rs (n ∷ []) p ((so.only p).0 (low, h.1)) | inr high ↦ let is : p ≡ n = omega (arith, h.0) in rw is (in_last rs n) ],
      λ i. elim (in_more rs n p i) [ inl e ↦ rw e (omega arith, free) | inr j ↦ let h = (so.only p).1 j in (omega (arith, h.0), h.1) ],
    );
    order = rising_more rs n so.order (λ p i. ((so.only p).1 i).0);
    few = omega (arith, length-append rs (n ∷ []), so.few);
  }

  pub root_less : held_in places n ≡ true → RootsBelow places (n + 1) rs
  root_less held = record {
    only = λ p. (
      λ h. elim (cases_lt p n) [ inl low ↦ (so.only p).0 (low, h.1) | inr high ↦ let is : p ≡ n = omega (arith, h.0) in absurd (both_ways _ (rw is at h.1) held) ],
      λ j. let h = (so.only p).1 j in (omega (arith, h.0), h.1),
    );
    order = so.order;
    few = omega (arith, so.few);
  }
