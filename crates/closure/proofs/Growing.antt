-- Lists of numbers and of couples, counting in a list, and growing a list until it is closed under a rule. Assumes nothing.
use Rattle.std.proofs.Common.{◌≡◌, ℕ, zero, suc, ◌+◌, ◌<◌, ◌≤◌, List, [], ◌∷◌, refl, ap, inl, inr, arith}
use Rattle.std.proofs.lemmas.Bool.{cases_eq}
use Rattle.recipe.specs.Common.{In}
use Rattle.closure.proofs.Known.{Known, known_both, known_not, known_among, known_in}

-- the numbers below n
pub numbers : ℕ → List ℕ
numbers zero = []
numbers (suc n) = n ∷ numbers n

pub in_numbers : (n k : ℕ) → k < n → In k (numbers n)
unfolding numbers
in_numbers zero k h = absurd (omega arith)
in_numbers (suc n) k h = elim (cases_eq k n) [ inl e ↦ inl e | inr o ↦ inr (in_numbers n k (omega arith)) ]

-- what a function makes of an element of one list and an element of another
beside : {A B C : Type 0} → (A → B → C) → A → List B → List C → List C
beside f x [] rest = rest
beside f x (y ∷ ys) rest = f x y ∷ beside f x ys rest

pub couples : {A B C : Type 0} → (A → B → C) → List A → List B → List C
couples f [] ys = []
couples f (x ∷ xs) ys = beside f x ys (couples f xs ys)

module _ {A B C : Type 0} (f : A → B → C) where
  in_beside : (x : A) (y : B) (ys : List B) (rest : List C) → In y ys → In (f x y) (beside f x ys rest)
  unfolding beside
  in_beside x y [] rest i = absurd i
  in_beside x y (z ∷ zs) rest (inl e) = inl (ap (f x) e)
  in_beside x y (z ∷ zs) rest (inr i) = inr (in_beside x y zs rest i)

  past_beside : (x : A) (w : C) (ys : List B) (rest : List C) → In w rest → In w (beside f x ys rest)
  unfolding beside
  past_beside x w [] rest i = i
  past_beside x w (y ∷ ys) rest i = inr (past_beside x w ys rest i)

  pub in_couples : (x : A) (y : B) (xs : List A) (ys : List B) → In x xs → In y ys → In (f x y) (couples f xs ys)
  unfolding couples
  in_couples x y [] ys i j = absurd i
  in_couples x y (z ∷ zs) ys (inl e) j = rw e (in_beside z y ys (couples f zs ys) j)
  in_couples x y (z ∷ zs) ys (inr i) j = past_beside z (f x y) ys (couples f zs ys) (in_couples x y zs ys i j)

-- 1 for what holds
one_if : {A : Type 0} → Known A → ℕ
one_if (inl a) = 1
one_if (inr n) = 0

-- how many elements have a property
pub count : {A : Type 0} {P : A → Type 0} → ((x : A) → Known (P x)) → List A → ℕ
count known [] = 0
count known (x ∷ xs) = one_if (known x) + count known xs

one_if_le : {A B : Type 0} (a : Known A) (b : Known B) → (A → B) → one_if a ≤ one_if b
unfolding one_if
one_if_le (inl a) (inl b) to = omega arith
one_if_le (inl a) (inr n) to = absurd (n (to a))
one_if_le (inr n) b to = omega arith

one_if_less : {A B : Type 0} (a : Known A) (b : Known B) → (A → ⊥) → B → one_if a < one_if b
unfolding one_if
one_if_less (inl a) b not h = absurd (not a)
one_if_less (inr n) (inl b) not h = omega arith
one_if_less (inr n) (inr m) not h = absurd (m h)

module _ {A : Type 0} {P Q : A → Type 0} (p : (x : A) → Known (P x)) (q : (x : A) → Known (Q x)) (to : (x : A) → P x → Q x) where
  -- a wider property counts no less
  pub count_le : (xs : List A) → count p xs ≤ count q xs
  unfolding count
  count_le [] = omega arith
  count_le (x ∷ xs) = omega (arith, one_if_le (p x) (q x) (to x), count_le xs)

  -- and more, if an element has it and not the other
  pub count_less : (xs : List A) (w : A) → In w xs → (P w → ⊥) → Q w → count p xs < count q xs
  unfolding count
  count_less [] w i not h = absurd i
  count_less (x ∷ xs) w (inl e) not h =
      let here : one_if (p x) < one_if (q x) = rw e at (one_if_less (p w) (q w) not h) in
      omega (arith, here, count_le xs)
  count_less (x ∷ xs) w (inr i) not h = omega (arith, one_if_le (p x) (q x) (to x), count_less xs w i not h)

-- a list of good elements, which has all that a rule over the list gives among the elements of `all`
pub record Grown {X : Type 0} (all : List X) (Good : X → Type 0) (Rule : List X → X → Type 0) : Type 0 where
  pub found : List X
  pub good : (x : X) → In x found → Good x
  pub closed : (x : X) → In x all → Rule found x → In x found

-- a rule that is decided, and gives good elements from good elements
module _ {X : Type 0} (equal : (x y : X) → Known (x ≡ y)) (all : List X) (Good : X → Type 0) (Rule : List X → X → Type 0) (decided : (found : List X) (x : X) → Known (Rule found x)) (sound : (found : List X) → ((x : X) → In x found → Good x) → (x : X) → Rule found x → Good x) where
  -- which elements are not found yet
  unfound : (found : List X) (x : X) → Known (In x found → ⊥)
  unfound found x = known_not (known_in equal x found)

  -- an element that the rule gives anew is added, as often as there are elements not found
  grow_within : (n : ℕ) (found : List X) → ((x : X) → In x found → Good x) → count (unfound found) all < n → Grown all Good Rule
  grow_within zero found good h = absurd (omega arith)
  grow_within (suc n) found good h = elim (known_among all (λ x. known_both (decided found x) (unfound found x))) [
    | inl (x, i, (r, new)) ↦
        let fewer = count_less (unfound (x ∷ found)) (unfound found) (λ y n j. n (inr j)) all x i (λ n. n (inl refl)) new in
        grow_within n (x ∷ found) (λ y j. elim j [ inl e ↦ rw e (sound found good x r) | inr k ↦ good y k ]) (omega arith)
    | inr none ↦ record {
      found = found;
      good = good;
      closed = λ x i r. elim (known_in equal x found) [ inl j ↦ j | inr new ↦ absurd (none (x, i, (r, new))) ];
    }
  ]

  pub grown : Grown all Good Rule
  grown = grow_within (suc (count (unfound []) all)) [] (λ x i. absurd i) (omega arith)
