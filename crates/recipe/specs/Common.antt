-- Membership of a list, the least number with a property, and the first answer of a row. Assumes nothing.
use Rattle.std.specs.Prelude.{◌≡◌, ℕ, zero, suc, ◌≤◌, Bool, cond, ◌⊎◌, List, [], ◌∷◌, Some, None, Option}
use Rattle.std.specs.Option.{option_or}

-- x stands in the list
abbrev pub In : {A : Type 0} → A → List A → Type 0
In x [] = ⊥
In x (y ∷ ys) = (x ≡ y) ⊎ In x ys

-- n has the property, and no lower number has it
pub record Least (P : ℕ → Type 0) (n : ℕ) : Type 0 where
  pub has : P n
  pub lowest : (k : ℕ) → P k → n ≤ k

-- the answer beside the first test that holds, if any does
abbrev pub first_that : {A : Type 0} → List (Bool × A) → Option A
first_that [] = None
first_that (x ∷ xs) = cond x.0 (Some x.1) (first_that xs)

-- the first answer of f 0, f 1, .. below f n
unfoldable pub first_below : {A : Type 0} → (ℕ → Option A) → ℕ → Option A
first_below f zero = None
first_below f (suc n) = option_or (first_below f n) (f n)
