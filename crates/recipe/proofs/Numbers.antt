-- What the laws of a sameness give of the numbers of leaves. Assumes nothing.
use Rattle.std.proofs.Common.{◌≡◌, ℕ, zero, suc, Bool, true, false, cond, ◌↔◌, List, [], ◌∷◌, length, get_or, is_some, Some, None, Option, sym, refl, ap, ◌∙◌, inl, inr, arith}
use Rattle.std.proofs.lemmas.List.{get_or_default}
use Rattle.std.proofs.lemmas.Bool.{both_ways, cases_order}
use Rattle.std.specs.Option.{option_map}
use Rattle.recipe.specs.Numbering.{number_of, NoneBelow, Lowest, Listed, NumbersTell, Numbered}
use Rattle.recipe.proofs.Sameness.{Sameness}

module _ {L : Type 0} (same : L → L → Bool) where
  -- one leaf more in front
  later : (y : L) (ys : List L) (x : L) (n : ℕ) → same y x ≡ false → NoneBelow same ys x n → NoneBelow same (y ∷ ys) x (suc n)
  later y ys x n differs none zero h = differs
  later y ys x n differs none (suc k) h = none k (omega arith)

  in_front : (b : Bool) (y : L) (ys : List L) (x : L) (r : Option ℕ) → same y x ≡ b → Lowest same ys x r → Lowest same (y ∷ ys) x (cond b (Some 0) (option_map suc r))
  in_front true y ys x r is low = (omega arith, is, λ k h. absurd (omega arith))
  in_front false y ys x None is low = later y ys x (length ys) is low
  in_front false y ys x (Some i) is low = (omega (arith, low.0), low.1, later y ys x i is low.2)

  pub number_lowest : (xs : List L) (x : L) → Lowest same xs x (number_of same xs x)
  unfolding number_of
  number_lowest [] x = λ k h. absurd (omega arith)
  number_lowest (y ∷ ys) x = in_front (same y x) y ys x (number_of same ys x) refl (number_lowest ys x)

  -- only one answer is lowest
  pub lowest_unique : (xs : List L) (x : L) (r s : Option ℕ) → Lowest same xs x r → Lowest same xs x s → r ≡ s
  lowest_unique xs x None None low also = refl
  lowest_unique xs x None (Some j) low also = absurd (both_ways _ (low j also.0) also.1)
  lowest_unique xs x (Some i) None low also = absurd (both_ways _ (also i low.0) low.1)
  lowest_unique xs x (Some i) (Some j) low also =
      elim (cases_order i j) [ inl e ↦ ap Some e | inr (inl h) ↦ absurd (both_ways _ (also.2 i h) low.1) | inr (inr h) ↦ absurd (both_ways _ (low.2 j h) also.1) ]

  -- two leaves that every leaf matches alike have one number
  number_ap : (xs : List L) (x z : L) → ((y : L) → same y x ≡ same y z) → number_of same xs x ≡ number_of same xs z
  unfolding number_of
  number_ap [] x z alike = refl
  number_ap (y ∷ ys) x z alike = rw (alike y, number_ap ys x z alike)

  module _ (laws : Sameness same) where
    pub listed : (xs : List L) (x : L) (r : Option ℕ) → Lowest same xs x r → Listed xs x r
    listed xs x None low = λ k h e. absurd (both_ways _ (low k h) (ap (λ y. same y x) e ∙ laws.reflexive x))
    listed xs x (Some i) low = λ k h e. refl

    -- two tests that imply each other are equal
    together : (b c : Bool) → (b ≡ true → c ≡ true) → (c ≡ true → b ≡ true) → b ≡ c
    together true c there back = sym (there refl)
    together false true there back = back refl
    together false false there back = refl

    pub one_number : (xs : List L) (x z : L) → same x z ≡ true → number_of same xs x ≡ number_of same xs z
    one_number xs x z e =
        number_ap xs x z (λ y. together (same y x) (same y z) (λ h. laws.transitive y x z h e) (λ h. laws.transitive y z x h (laws.symmetric x z e)))

    -- leaves with one number are the same as the leaf at that index
    joined : (xs : List L) (x z : L) (r s : Option ℕ) → Lowest same xs x r → Lowest same xs z s → is_some r ≡ true → r ≡ s → same x z ≡ true
    joined xs x z None s low also some e = absurd (both_ways _ refl some)
    joined xs x z (Some i) None low also some e = absurd (both_ways _ refl (ap is_some (sym e)))
    joined xs x z (Some i) (Some j) low also some e =
        let at : i ≡ j = cc in
        let there : same (get_or xs i x) z ≡ true = ap (λ y. same y z) (get_or_default xs i x z low.0) ∙ rw at also.1 in
        laws.transitive x (get_or xs i x) z (laws.symmetric (get_or xs i x) x low.1) there

    -- a leaf with a number has it in common with the leaves that are the same
    pub number_tells : (xs : List L) (x z : L) → is_some (number_of same xs x) ≡ true → (number_of same xs x ≡ number_of same xs z) ↔ (same x z ≡ true)
    number_tells xs x z has = (joined xs x z _ _ (number_lowest xs x) (number_lowest xs z) has, one_number xs x z)

    pub numbers_tell : (xs : List L) → NumbersTell same xs
    numbers_tell xs j k d hj hk =
        let x = get_or xs j d in
        number_tells xs x (get_or xs k d) (listed xs x (number_of same xs x) (number_lowest xs x) j hj (get_or_default xs j x d hj))

    pub numbered : (xs : List L) (x : L) (r : Option ℕ) → Lowest same xs x r → Numbered same xs x r
    numbered xs x r low = record {
      value = lowest_unique xs x r (number_of same xs x) low (number_lowest xs x);
      lowest = low;
      listed = listed xs x r low;
      tell = numbers_tell xs;
    }
