-- Statements that hold or do not hold, and the least number that has a property. Assumes nothing.
use Rattle.std.proofs.Common.{◌≡◌, ℕ, zero, suc, ◌<◌, ◌≤◌, Bool, true, false, ◌⊎◌, ◌↔◌, List, [], ◌∷◌, Some, None, Option, sym, refl, ap, ◌∙◌, subst, inl, inr, arith}
use Rattle.std.proofs.lemmas.Bool.{both_ways, cases_eq, cases_lt}
use Rattle.std.proofs.lemmas.Option.{none-some}
use Rattle.recipe.specs.Common.{In, Least}

-- a statement holds, or it does not
abbrev pub Known : Type 0 → Type 0
Known A = A ⊎ (A → ⊥)

pub known_same : {A B : Type 0} → (A → B) → (B → A) → Known A → Known B
known_same to from (inl a) = inl (to a)
known_same to from (inr n) = inr (λ b. n (from b))

pub known_both : {A B : Type 0} → Known A → Known B → Known (A × B)
known_both (inl a) (inl b) = inl (a, b)
known_both (inl a) (inr n) = inr (λ w. n w.1)
known_both (inr n) b = inr (λ w. n w.0)

pub known_either : {A B : Type 0} → Known A → Known B → Known (A ⊎ B)
known_either (inl a) b = inl (inl a)
known_either (inr n) (inl b) = inl (inr b)
known_either (inr n) (inr m) = inr (λ w. elim w [ inl a ↦ n a | inr b ↦ m b ])

pub known_not : {A : Type 0} → Known A → Known (A → ⊥)
known_not (inl a) = inr (λ n. n a)
known_not (inr n) = inl n

pub known_false : (b : Bool) → Known (b ≡ false)
known_false true = inr (λ e. both_ways true e refl)
known_false false = inl refl

-- whether two numbers, or two binders, are one, where there may be none
pub known_option : (r s : Option ℕ) → Known (r ≡ s)
known_option None None = inl refl
known_option None (Some j) = inr (none-some j)
known_option (Some i) None = inr (λ e. none-some i (sym e))
known_option (Some i) (Some j) = known_same (λ e. ap Some e) (λ e. cc) (cases_eq i j)

-- some element of a list has a property
abbrev pub Among : {A : Type 0} → List A → (A → Type 0) → Type 0
Among {A} xs P = (x : A) × In x xs × P x

-- one more element in front
more : {A : Type 0} {P : A → Type 0} (x : A) (xs : List A) → Known (P x) → Known (Among xs P) → Known (Among (x ∷ xs) P)
more x xs (inl h) later = inl (x, inl refl, h)
more x xs (inr n) (inl (y, i, h)) = inl (y, inr i, h)
more {P = P} x xs (inr n) (inr none) = inr (λ w. elim w.1 [ inl e ↦ n (rw e at w.2) | inr i ↦ none (w.0, i, w.2) ])

pub known_among : {A : Type 0} {P : A → Type 0} (xs : List A) → ((x : A) → Known (P x)) → Known (Among xs P)
known_among [] known = inr (λ w. w.1)
known_among (x ∷ xs) known = more x xs (known x) (known_among xs known)

pub known_in : {A : Type 0} → ((x y : A) → Known (x ≡ y)) → (x : A) (xs : List A) → Known (In x xs)
known_in equal x [] = inr (λ i. i)
known_in equal x (y ∷ ys) = known_either (equal x y) (known_in equal x ys)

pub known_pair : {A B : Type 0} → ((a c : A) → Known (a ≡ c)) → ((b d : B) → Known (b ≡ d)) → (x y : A × B) → Known (x ≡ y)
known_pair first second x y =
    known_same (λ e. ap (λ a. (a, x.1)) e.0 ∙ ap (λ b. (y.0, b)) e.1) (λ e. (ap (λ w. w.0) e, ap (λ w. w.1) e)) (known_both (first x.0 y.0) (second x.1 y.1))

pub known_below : (m n : ℕ) → Known (m < n)
known_below m n = elim (cases_lt m n) [ inl l ↦ inl l | inr l ↦ inr (λ h. omega arith) ]

-- the least number that has a property, or none below n
abbrev pub FirstBelow : (ℕ → Type 0) → ℕ → Type 0
FirstBelow P n = ((k : ℕ) × (k < n) × Least P k) ⊎ ((k : ℕ) → k < n → P k → ⊥)

module _ (P : ℕ → Type 0) (each : (k : ℕ) → Known (P k)) where
  -- one step of `least_below`
  least_more : (n : ℕ) → ((k : ℕ) → k < n → P k → ⊥) → Known (P n) → FirstBelow P (suc n)
  least_more n none (inl h) =
      inl (n, omega arith, record { has = h; lowest = λ k has. elim (cases_lt k n) [ inl l ↦ absurd (none k l has) | inr l ↦ l ] })
  least_more n none (inr not_here) =
      inr (λ k l has. elim (cases_lt k n) [ inl m ↦ none k m has | inr m ↦ let e : k ≡ n = omega arith in not_here (subst P e has) ])

  pub least_below : (n : ℕ) → FirstBelow P n
  least_below zero = inr (λ k l. absurd (omega arith))
  least_below (suc n) = elim (least_below n) [ inl f ↦ let h = f.1 in inl (f.0, omega arith, f.2) | inr none ↦ least_more n none (each n) ]

  module _ (n : ℕ) (within : (k : ℕ) → P k → k < n) where
    pub least_or_none : ((k : ℕ) × Least P k) ⊎ ((k : ℕ) → P k → ⊥)
    least_or_none = elim (least_below n) [ inl f ↦ inl (f.0, f.2) | inr none ↦ inr (λ k has. none k (within k has) has) ]

    pub some_or_none : Known ((k : ℕ) × P k)
    some_or_none = elim least_or_none [ inl f ↦ inl (f.0, f.1.has) | inr none ↦ inr (λ f. none f.0 f.1) ]

-- two properties have one least number, if the first gives the second, and the second gives the first at a number that is no higher
pub least_same : (P Q : ℕ → Type 0) → ((k : ℕ) → P k → Q k) → ((k : ℕ) → Q k → (j : ℕ) × (j ≤ k) × P j) → (n : ℕ) → Least P n ↔ Least Q n
least_same P Q to from n = (
  λ l. record { has = to n l.has; lowest = λ k q. let (j, low, p) = from k q in let h = l.lowest j p in omega arith },
  λ l. record {
    has =
        let (j, low, p) = from n l.has in
        let h = l.lowest j (to j p) in
        let e : j ≡ n = omega arith in
        subst P e p;
    lowest = λ k p. l.lowest k (to k p);
  },
)

-- two properties of the same numbers have one least number
pub least_over : {P Q : ℕ → Type 0} → ((k : ℕ) → P k → Q k) → ((k : ℕ) → Q k → P k) → {n : ℕ} → Least P n → Least Q n
least_over to from l = record { has = to _ l.has; lowest = λ k q. l.lowest k (from k q) }
