-- The laws of the first answer of a row. Assumes nothing.
use Rattle.std.proofs.Common.{◌≡◌, ℕ, zero, suc, ◌<◌, false, is_some, Some, None, Option, sym, refl, inl, inr, arith}
use Rattle.std.proofs.lemmas.Option.{none-some}
use Rattle.std.proofs.lemmas.Bool.{cases_lt, true≢false}
use Rattle.std.specs.Option.{option_map, option_or}
use Rattle.recipe.specs.Common.{first_below}

pub not_some : {A : Type 0} (o : Option A) → is_some o ≡ false → o ≡ None
not_some None e = refl
not_some (Some n) e = absurd (true≢false e)

-- a function of the first of two answers
pub mapped_or_other : {A B : Type 0} (g : A → B) (x y : Option A) → option_map g (option_or x y) ≡ option_or (option_map g x) (option_map g y)
mapped_or_other g None y = refl
mapped_or_other g (Some a) y = refl

module _ {A : Type 0} (f : ℕ → Option A) where
  -- one more of the row
  pub first_more : (n : ℕ) → first_below f (suc n) ≡ option_or (first_below f n) (f n)
  unfolding first_below
  first_more n = refl

  -- a row of numbers below n, and n itself
  upto : (P : ℕ → Type 0) (n k : ℕ) → k < suc n → ((j : ℕ) → j < n → P j) → P n → P k
  upto P n k h below here = elim (cases_lt k n) [ inl l ↦ below k l | inr l ↦ let e : k ≡ n = omega arith in rw e here ]

  -- one step of `first_none`
  none_more : (n : ℕ) (o : Option A) → option_or o (f n) ≡ None → (o ≡ None → (j : ℕ) → j < n → f j ≡ None) → (k : ℕ) → k < suc n → f k ≡ None
  none_more n None e below k h = upto (λ j. f j ≡ None) n k h (below refl) e
  none_more n (Some a) e below k h = absurd (none-some a (sym e))

  -- without a first answer no number has an answer
  pub first_none : (n : ℕ) → first_below f n ≡ None → (k : ℕ) → k < n → f k ≡ None
  unfolding first_below
  first_none zero e k h = absurd (omega arith)
  first_none (suc n) e k h = none_more n (first_below f n) e (first_none n) k h

  -- where no number has an answer there is no first one
  pub none_first : (n : ℕ) → ((k : ℕ) → k < n → f k ≡ None) → first_below f n ≡ None
  unfolding first_below
  none_first zero none = refl
  none_first (suc n) none = rw (none_first n (λ k h. none k (omega arith))) (none n (omega arith))

  -- one step of `first_found`
  found_more : (n : ℕ) (a : A) (o : Option A) → first_below f n ≡ o → option_or o (f n) ≡ Some a → (o ≡ Some a → (k : ℕ) × (k < n) × (f k ≡ Some a) × ((j : ℕ) → j < k → f j ≡ None)) → (k : ℕ) × (k < suc n) × (f k ≡ Some a) × ((j : ℕ) → j < k → f j ≡ None)
  found_more n a None is e below = (n, omega arith, e, first_none n is)
  found_more n a (Some b) is e below = let (k, h, at, low) = below e in (k, omega arith, at, low)

  -- the first answer is that of a number below n, and no lower number has an answer
  pub first_found : (n : ℕ) (a : A) → first_below f n ≡ Some a → (k : ℕ) × (k < n) × (f k ≡ Some a) × ((j : ℕ) → j < k → f j ≡ None)
  unfolding first_below
  first_found zero a e = absurd (none-some a e)
  first_found (suc n) a e = found_more n a (first_below f n) refl e (first_found n a)

  -- the answer of a number below which no number has one is the first
  pub some_first : (n k : ℕ) (a : A) → k < n → f k ≡ Some a → ((j : ℕ) → j < k → f j ≡ None) → first_below f n ≡ Some a
  unfolding first_below
  some_first zero k a h e low = absurd (omega arith)
  some_first (suc n) k a h e low =
      elim (cases_lt k n) [ inl l ↦ rw (some_first n k a l e low) | inr l ↦ let is : k ≡ n = omega arith in rw (none_first n (λ j i. low j (omega arith)), ← is) e ]
