-- One pair more in a forest over names. Assumes nothing.
use Rattle.std.proofs.Common.{◌≡◌, ℕ, ◌⊎◌, List, [], ◌∷◌, ◌++◌, length, refl, ap, ◌∙◌, inl, inr}
use Rattle.recipe.specs.Common.{In}
use Rattle.recipe.specs.Fillings.{Pair}
use Rattle.recipe.specs.Tables.{Table}
use Rattle.closure.specs.Closures.{Closure}
use Rattle.closure.specs.Names.{Node}
use Rattle.closure.proofs.ClosureGrown.{closure_over}
use Rattle.forest.specs.Exact as forest
use Rattle.nodes.specs.NameClasses.{NamesSome, NumbersJoined, name_parts, node_number}
use Rattle.nodes.specs.NameSteps.{PairsMore}

module _ {L : Type 0} (T : Table L) (m : ℕ) (told : List Pair) {Done : Node → Node → Type 0} where
  -- what is done, said in other words
  pub names_said : {Said : Node → Node → Type 0} {rows : List ℕ} (some : NamesSome T m told Done rows) → ((a b : Node) → Said a b → forest.Joined (name_parts T m) some.pairs (node_number m a) (node_number m b)) → NamesSome T m told Said rows
  names_said some said = record { long = some.long; pairs = some.pairs; exact = some.exact; held = some.held; done = said }

  module _ {old new : List ℕ} {u v : ℕ} (some : NamesSome T m told Done old) (long : length new ≡ length old) (joined : NumbersJoined T m told u v) (more : forest.OneMore u v old new) where
    new_held : (p q : ℕ) → In (p, q) ((u, v) ∷ some.pairs) → NumbersJoined T m told p q
    new_held p q (inl e) = rw (ap (λ w. w.0) e, ap (λ w. w.1) e) joined
    new_held p q (inr i) = some.held p q i

    -- the numbers of two nodes joined: what was done is done, and these are
    pub names_more : {More : Node → Node → Type 0} → ((a b : Node) → More a b → Done a b ⊎ ((node_number m a ≡ u) × (node_number m b ≡ v))) → NamesSome T m told More new
    names_more either = record {
      long = long ∙ some.long;
      pairs = (u, v) ∷ some.pairs;
      exact = more (name_parts T m) some.pairs some.exact;
      held = new_held;
      done = λ a b h. elim (either a b h) [
        | inl d ↦ closure_over (λ i j k. inr k) (some.done a b d)
        | inr e ↦ rw (e.0, e.1) (Closure.held (inl refl))
      ];
    }

-- what stands in two lists together
pub in_either : {A : Type 0} (x : A) (xs ys : List A) → In x (xs ++ ys) → In x xs ⊎ In x ys
in_either x [] ys i = inr i
in_either x (z ∷ xs) ys (inl e) = inl (inl e)
in_either x (z ∷ xs) ys (inr i) = elim (in_either x xs ys i) [ inl j ↦ inl (inr j) | inr j ↦ inr j ]

pub in_left : {A : Type 0} (x : A) (xs ys : List A) → In x xs → In x (xs ++ ys)
in_left x [] ys i = absurd i
in_left x (z ∷ xs) ys (inl e) = inl e
in_left x (z ∷ xs) ys (inr i) = inr (in_left x xs ys i)

pub in_right : {A : Type 0} (x : A) (xs ys : List A) → In x ys → In x (xs ++ ys)
in_right x [] ys i = i
in_right x (z ∷ xs) ys i = inr (in_right x xs ys i)

module _ {L : Type 0} (T : Table L) (m : ℕ) (told : List Pair) {Done : Node → Node → Type 0} where
  -- a list of pairs of numbers joined: what was done is done, and what they join
  pub names_over : {old new : List ℕ} (pairs : List (ℕ × ℕ)) → NamesSome T m told Done old → length new ≡ length old → ((u v : ℕ) → In (u, v) pairs → NumbersJoined T m told u v) → PairsMore pairs old new → NamesSome T m told (λ a b. Done a b ⊎ forest.Joined (name_parts T m) pairs (node_number m a) (node_number m b)) new
  names_over pairs some long joined more = record {
    long = long ∙ some.long;
    pairs = pairs ++ some.pairs;
    exact = more (name_parts T m) some.pairs some.exact;
    held = λ u v i. elim (in_either (u, v) pairs some.pairs i) [ inl j ↦ joined u v j | inr j ↦ some.held u v j ];
    done = λ a b h. elim h [
      | inl d ↦ closure_over (λ i j k. in_right (i, j) pairs some.pairs k) (some.done a b d)
      | inr d ↦ closure_over (λ i j k. in_left (i, j) pairs some.pairs k) d
    ];
  }

  -- less is done too
  pub names_to : {Less : Node → Node → Type 0} {rows : List ℕ} → ((a b : Node) → Less a b → Done a b) → NamesSome T m told Done rows → NamesSome T m told Less rows
  names_to to some = record { long = some.long; pairs = some.pairs; exact = some.exact; held = some.held; done = λ a b h. some.done a b (to a b h) }

module _ {L : Type 0} (T : Table L) (m : ℕ) (told : List Pair) {Done : Node → Node → Type 0} where
  -- so the pairs themselves are done
  pub names_many : {old new : List ℕ} (pairs : List (ℕ × ℕ)) → NamesSome T m told Done old → length new ≡ length old → ((u v : ℕ) → In (u, v) pairs → NumbersJoined T m told u v) → PairsMore pairs old new → NamesSome T m told (λ a b. Done a b ⊎ In (node_number m a, node_number m b) pairs) new
  names_many pairs some long joined more = names_to T m told (λ a b h. elim h [ inl d ↦ inl d | inr i ↦ inr (Closure.held i) ]) (names_over T m told pairs some long joined more)
