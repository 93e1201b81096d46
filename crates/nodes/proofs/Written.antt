-- What the words of a place write after three of them are set. Assumes nothing.
use Rattle.std.proofs.Common.{◌≡◌, ◌≢◌, ℕ, ◌+◌, ◌*◌, ◌<◌, ◌≤◌, List, length, get_or, slice_index, set, Some, Option, sym, ap, ◌∙◌, arith, below_more, get_or-set_same, get_or-set_other, length-set}
use Rattle.std.proofs.lemmas.Option.{slice_get-get_or}
use Rattle.recipe.specs.Tables.{form_at, form_by, form_of, table_of}
use Rattle.recipe.specs.declared.places.Place.{Place}
use Rattle.nodes.specs.Records.{ChangesOnly, FormWord, HasRows, with_numbers, written_form}

-- the words of the place p set
abbrev pub with_row : List ℕ → ℕ → ℕ → ℕ → ℕ → List ℕ
with_row ws p kind a b = set (set (set ws (8 * p) kind) (8 * p + 1) a) (8 * p + 2) b

module _ (ws : List ℕ) (p kind a b : ℕ) where
  -- another word stays
  kept : (i : ℕ) → i ≢ 8 * p → i ≢ 8 * p + 1 → i ≢ 8 * p + 2 → slice_index (with_row ws p kind a b) i ≡ slice_index ws i
  kept i first second third =
      get_or-set_other (set (set ws (8 * p) kind) (8 * p + 1) a) (8 * p + 2) i b 0 third
      ∙ get_or-set_other (set ws (8 * p) kind) (8 * p + 1) i a 0 second
      ∙ get_or-set_other ws (8 * p) i kind 0 first

  -- another place has its form still
  pub form_kept : (k : ℕ) → k ≢ p → written_form (with_row ws p kind a b) k ≡ written_form ws k
  form_kept k other =
      rw (
        kept (8 * k) (omega arith) (omega arith) (omega arith),
        kept (8 * k + 1) (omega arith) (omega arith) (omega arith),
        kept (8 * k + 2) (omega arith) (omega arith) (omega arith),
      )

  -- the place has the form of the words that are set
  pub form_set : 8 * p + 3 ≤ length ws → written_form (with_row ws p kind a b) p ≡ form_by (Some a) a b kind
  form_set long =
      let one : List ℕ = set ws (8 * p) kind in
      let two : List ℕ = set one (8 * p + 1) a in
      let first : slice_index (with_row ws p kind a b) (8 * p) ≡ kind =
      get_or-set_other two (8 * p + 2) (8 * p) b 0 (omega arith) ∙ get_or-set_other one (8 * p + 1) (8 * p) a 0 (omega arith) ∙ get_or-set_same ws (8 * p) kind 0 (omega arith) in
      let second : slice_index (with_row ws p kind a b) (8 * p + 1) ≡ a =
      get_or-set_other two (8 * p + 2) (8 * p + 1) b 0 (omega arith) ∙ get_or-set_same one (8 * p + 1) a 0 (omega (arith, length-set {A = ℕ})) in
      let third : slice_index (with_row ws p kind a b) (8 * p + 2) ≡ b = get_or-set_same two (8 * p + 2) b 0 (omega (arith, length-set {A = ℕ})) in
      rw (first, second, third)

-- one word more that may change
pub only_set : {At : ℕ → Type 0} (old ws : List ℕ) (j v : ℕ) → At j → ChangesOnly At old ws → ChangesOnly At old (set ws j v)
only_set {At = At} old ws j v at only i other =
    get_or-set_other ws j i v 0 (λ e. other (rw e at)) ∙ only i other

-- the words of one place more may change
pub only_more : (p : ℕ) (old ws : List ℕ) → ChangesOnly (FormWord p) old ws → ChangesOnly (FormWord (p + 1)) old ws
only_more p old ws only i other = only i (λ (k, low, from, to). other (k, omega arith, from, to))

-- the words write the places below n
abbrev pub WritesBelow : {L : Type 0} → (L → Option ℕ) → List Place → List L → ℕ → List ℕ → Type 0
WritesBelow number places ls n ws = (p : ℕ) → p < n → written_form ws p ≡ with_numbers number ((table_of places ls).form p)

-- one place more, with a number for its leaf, or its own second number
pub one_more : {L : Type 0} (number : L → Option ℕ) (places : List Place) (ls : List L) (ws : List ℕ) (p a : ℕ) (d : Place) → HasRows (length places) ws → p < length places → form_by (Some a) a (get_or places p d).b (get_or places p d).kind ≡ with_numbers number (form_of ls (get_or places p d)) → WritesBelow number places ls p ws → WritesBelow number places ls (p + 1) (with_row ws p (get_or places p d).kind a (get_or places p d).b)
one_more number places ls ws p a d rows within tells below =
    let x = get_or places p d in
    below_more _ _
    (λ k low. form_kept ws p x.kind a x.b k (omega arith) ∙ below k low)
    (form_set ws p x.kind a x.b (omega arith) ∙ tells ∙ sym (ap (λ o. with_numbers number (form_at ls o)) (slice_get-get_or places p d within)))
