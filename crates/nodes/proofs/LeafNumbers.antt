-- The numbers of leaves as leaves: they are the same where the leaves are, and each is its own number among the numbers below the length of the list. Assumes nothing.
use Rattle.std.proofs.Common.{◌≡◌, ℕ, zero, suc, ◌<◌, Bool, true, false, nat_eq, ◌↔◌, List, length, get_or, is_some, unwrap_or, Some, None, Option, sym, refl, ap, ◌∙◌, arith, eq-eqb, ne_eqb}
use Rattle.std.proofs.lemmas.Bool.{both_ways, eqb-true}
use Rattle.std.proofs.lemmas.List.FromFn.{get_or-range_with_len, length-range_with_len}
use Rattle.std.proofs.lemmas.Option.{get_or_from_slice_get, slice_get_within}
use Rattle.std.specs.List.{range_with_len, slice_get}
use Rattle.recipe.specs.Numbering.{Lowest, number_of}
use Rattle.recipe.specs.Sameness.{Sameness}
use Rattle.recipe.specs.Tables.{Form, form_at, form_by}
use Rattle.recipe.specs.declared.places.Place.{Place}
use Rattle.recipe.proofs.Numbers.{listed, lowest_unique, number_lowest, number_tells}

-- numbers are the same where they are equal
pub nat_sameness : Sameness nat_eq
nat_sameness = record {
  reflexive = λ x. eq-eqb x x refl;
  symmetric = λ x y e. eq-eqb y x (sym (eqb-true x y e));
  transitive = λ x y z d e. eq-eqb x z (eqb-true x y d ∙ eqb-true y z e);
}

-- a number is its own number among those below n
pub own_number : (n i : ℕ) → i < n → number_of nat_eq (range_with_len 0 n) i ≡ Some i
own_number n i within =
    let at : (k : ℕ) → k < n → get_or (range_with_len 0 n) k i ≡ k = λ k h. get_or-range_with_len 0 n k i h ∙ omega arith in
    lowest_unique nat_eq (range_with_len 0 n) i (number_of nat_eq (range_with_len 0 n) i) (Some i) (number_lowest nat_eq (range_with_len 0 n) i)
    (omega (arith, length-range_with_len), eq-eqb _ _ (at i within), λ k low. ne_eqb _ _ (λ e. let same : k ≡ i = sym (at k (omega arith)) ∙ e in omega arith))

-- numbers that are equal exactly if a test holds are told apart by it
told_by : (r s : Option ℕ) (b : Bool) → is_some r ≡ true → is_some s ≡ true → (r ≡ s) ↔ (b ≡ true) → b ≡ nat_eq (unwrap_or r 0) (unwrap_or s 0)
told_by None s b some also tell = absurd (both_ways _ refl some)
told_by (Some i) None b some also tell = absurd (both_ways _ refl also)
told_by (Some i) (Some j) true some also tell = let e : ◌≡◌ {A = Option ℕ} (Some i) (Some j) = tell.1 refl in sym (eq-eqb i j cc)
told_by (Some i) (Some j) false some also tell = sym (ne_eqb i j (λ e. both_ways _ refl (tell.0 (ap Some e))))

-- a form that is a leaf has it from the list
leaf_of : {L : Type 0} (one : Option L) (a b kind : ℕ) (l : L) → form_by one a b kind ≡ Form.leaf l → one ≡ Some l
leaf_of one a b zero l e = cc
leaf_of None a b (suc zero) l e = cc
leaf_of (Some m) a b (suc zero) l e = cc
leaf_of one a b (suc (suc zero)) l e = cc
leaf_of one a b (suc (suc (suc zero))) l e = cc
leaf_of one a b (suc (suc (suc (suc zero)))) l e = cc
leaf_of one a b (suc (suc (suc (suc (suc zero))))) l e = cc
leaf_of one a b (suc (suc (suc (suc (suc (suc kind)))))) l e = cc

module _ {L : Type 0} (same : L → L → Bool) (laws : Sameness same) (ls : List L) where
  -- so it has a number
  pub leaf_numbered : (x : Option Place) (l : L) → form_at ls x ≡ Form.leaf l → is_some (number_of same ls l) ≡ true
  leaf_numbered None l e = cc
  leaf_numbered (Some x) l e =
      let at : slice_get ls x.a ≡ Some l = leaf_of (slice_get ls x.a) x.a x.b x.kind l e in
      listed same laws ls l (number_of same ls l) (number_lowest same ls l) x.a (slice_get_within ls x.a l at) (get_or_from_slice_get ls x.a l l at)

  -- and that is its own
  number_own : (l : L) (r : Option ℕ) → Lowest same ls l r → is_some r ≡ true → r ≡ number_of nat_eq (range_with_len 0 (length ls)) (unwrap_or r 0)
  number_own l None low some = absurd (both_ways _ refl some)
  number_own l (Some i) low some = sym (own_number (length ls) i low.0)

  pub leaf_own : (l : L) → is_some (number_of same ls l) ≡ true → number_of same ls l ≡ number_of nat_eq (range_with_len 0 (length ls)) (unwrap_or (number_of same ls l) 0)
  leaf_own l = number_own l (number_of same ls l) (number_lowest same ls l)

  -- leaves with numbers are the same where the numbers are equal
  pub leaves_told : (l m : L) → is_some (number_of same ls l) ≡ true → is_some (number_of same ls m) ≡ true → same l m ≡ nat_eq (unwrap_or (number_of same ls l) 0) (unwrap_or (number_of same ls m) 0)
  leaves_told l m some also = told_by (number_of same ls l) (number_of same ls m) (same l m) some also (number_tells same laws ls l m some)
