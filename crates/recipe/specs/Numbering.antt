-- The number of a leaf in a list of leaves, and what a sameness with the three laws makes of it. Assumes nothing. (docs/RULES.md, "Numbers of leaves")
use Rattle.std.specs.Prelude.{◌≡◌, ℕ, suc, ◌<◌, Bool, true, false, cond, ◌↔◌, List, [], ◌∷◌, length, is_some, Some, None, Option, MatchOption, slice_index_or}
use Rattle.std.specs.Option.{option_map}

-- the lowest index of a leaf of xs that is the same as x, if there is one
unfoldable pub number_of : {L : Type 0} → (L → L → Bool) → List L → L → Option ℕ
number_of same [] x = None
number_of same (y ∷ ys) x = cond (same y x) (Some 0) (option_map suc (number_of same ys x))

-- no leaf of xs below the index n is the same as x
abbrev pub NoneBelow : {L : Type 0} → (L → L → Bool) → List L → L → ℕ → Type 0
NoneBelow same xs x n = (k : ℕ) → k < n → same (slice_index_or xs k x) x ≡ false

-- r is the lowest index of a leaf that is the same as x, and none only where no leaf is
abbrev pub Lowest : {L : Type 0} → (L → L → Bool) → List L → L → Option ℕ → Type 0
Lowest same xs x r =
    MatchOption r (NoneBelow same xs x (length xs)) (λ i. (i < length xs) × (same (slice_index_or xs i x) x ≡ true) × NoneBelow same xs x i)

-- a leaf of the list has a number
abbrev pub Listed : {L : Type 0} → List L → L → Option ℕ → Type 0
Listed xs x r = (k : ℕ) → k < length xs → slice_index_or xs k x ≡ x → is_some r ≡ true

-- two leaves of the list have one number exactly when they are the same (j and k are indices of the list, so that d is never read)
abbrev pub NumbersTell : {L : Type 0} → (L → L → Bool) → List L → Type 0
NumbersTell {L} same xs =
    (j k : ℕ) (d : L) → j < length xs → k < length xs → (number_of same xs (slice_index_or xs j d) ≡ number_of same xs (slice_index_or xs k d)) ↔ (same (slice_index_or xs j d) (slice_index_or xs k d) ≡ true)

-- r is the number of x in xs, with the facts that follow from the laws of sameness
pub record Numbered {L : Type 0} (same : L → L → Bool) (xs : List L) (x : L) (r : Option ℕ) : Type 0 where
  pub value : r ≡ number_of same xs x
  pub lowest : Lowest same xs x r
  pub listed : Listed xs x r
  pub tell : NumbersTell same xs
