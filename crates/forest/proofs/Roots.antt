-- Climbing to the root where no parent is higher than its node, and what a written word changes in roots, parts and the sum of the parents. Assumes nothing.
use Rattle.std.proofs.Common.{◌≡◌, ◌≢◌, ◌⊎◌, ◌==◌, ℕ, zero, suc, ◌+◌, ◌*◌, ◌/◌, ◌<◌, ◌≤◌, cond, List, length, slice_index, set, refl, ap, sym, ◌∙◌, inl, inr, arith, get_or-set_same, get_or-set_other, ne_eqb, eq-eqb}
use Rattle.std.proofs.lemmas.Bool.{cases_eq, cond-true, cond-false}
use Rattle.forest.specs.Rows.{IsNode, climb, node_or_none, parent, remembered, root, sum_parents, weight}

-- no parent is higher than its node
abbrev pub Low : List ℕ → Type 0
Low ws = (i : ℕ) → parent ws i ≤ i

-- climbing from a node that is its own parent
climb_fixed : (k : ℕ) (ws : List ℕ) (i : ℕ) → parent ws i ≡ i → climb k ws i ≡ i
unfolding climb
climb_fixed zero ws i fixed = refl
climb_fixed (suc k) ws i fixed = rw fixed (climb_fixed k ws i fixed)

-- whatever a node has in common with its parent, and is the node itself where that is its own parent, is where enough steps lead
climb_to : (f : ℕ → ℕ) (k : ℕ) (ws : List ℕ) (i : ℕ) → Low ws → ((j : ℕ) → f (parent ws j) ≡ f j) → ((j : ℕ) → parent ws j ≡ j → f j ≡ j) → i ≤ k → climb k ws i ≡ f i
unfolding climb
climb_to f zero ws i low along fixed le = sym (fixed i (omega (arith, low i)))
climb_to f (suc k) ws i low along fixed le = elim (cases_eq (parent ws i) i) [
  | inl e ↦ climb_fixed (suc k) ws i e ∙ sym (fixed i e)
  | inr ne ↦ climb_to f k ws (parent ws i) low along fixed (omega (arith, low i)) ∙ along i
]

-- the steps of two climbs may differ in number
climb_same : (k m : ℕ) (ws : List ℕ) (i : ℕ) → Low ws → i ≤ k → i ≤ m → climb k ws i ≡ climb m ws i
unfolding climb
climb_same zero m ws i low le more = sym (climb_fixed m ws i (omega (arith, low i)))
climb_same (suc k) zero ws i low le more = climb_fixed (suc k) ws i (omega (arith, low i))
climb_same (suc k) (suc m) ws i low le more = elim (cases_eq (parent ws i) i) [
  | inl e ↦ climb_fixed (suc k) ws i e ∙ sym (climb_fixed (suc m) ws i e)
  | inr ne ↦ climb_same k m ws (parent ws i) low (omega (arith, low i)) (omega (arith, low i))
]

-- more steps change nothing
pub climb_more : (k : ℕ) (ws : List ℕ) (i : ℕ) → Low ws → i ≤ k → climb k ws i ≡ root ws i
unfolding root
climb_more k ws i low le = climb_same k i ws i low le (omega arith)

-- so what a node has in common with its parent, and is the node itself where that is its own parent, is the root
pub root_is : (f : ℕ → ℕ) (ws : List ℕ) (i : ℕ) → Low ws → ((j : ℕ) → f (parent ws j) ≡ f j) → ((j : ℕ) → parent ws j ≡ j → f j ≡ j) → root ws i ≡ f i
unfolding root
root_is f ws i low along fixed = climb_to f i ws i low along fixed (omega arith)

-- a node and its parent have one root
pub root_parent : (ws : List ℕ) (i : ℕ) → Low ws → root ws (parent ws i) ≡ root ws i
unfolding climb
root_parent ws i low = sym (climb_more i ws (parent ws i) low (low i)) ∙ climb_more (suc i) ws i low (omega arith)

-- a node that is its own parent is its root
pub fixed_root : (ws : List ℕ) (i : ℕ) → parent ws i ≡ i → root ws i ≡ i
unfolding root
fixed_root ws i fixed = climb_fixed i ws i fixed

climb_le : (k : ℕ) (ws : List ℕ) (i : ℕ) → Low ws → climb k ws i ≤ i
unfolding climb
climb_le zero ws i low = omega arith
climb_le (suc k) ws i low = omega (arith, climb_le k ws (parent ws i) low, low i)

pub root_le : (ws : List ℕ) (i : ℕ) → Low ws → root ws i ≤ i
unfolding root
root_le ws i low = climb_le i ws i low

climb_top : (k : ℕ) (ws : List ℕ) (i : ℕ) → Low ws → i ≤ k → parent ws (climb k ws i) ≡ climb k ws i
unfolding climb
climb_top zero ws i low le = omega (arith, low i)
climb_top (suc k) ws i low le = elim (cases_eq (parent ws i) i) [
  | inl e ↦ rw (climb_fixed (suc k) ws i e) e
  | inr ne ↦ climb_top k ws (parent ws i) low (omega (arith, low i))
]

-- a root is its own parent, and its root
pub root_fixed : (ws : List ℕ) (i : ℕ) → Low ws → parent ws (root ws i) ≡ root ws i
unfolding root
root_fixed ws i low = climb_top i ws i low (omega arith)

pub root_root : (ws : List ℕ) (i : ℕ) → Low ws → root ws (root ws i) ≡ root ws i
root_root ws i low = fixed_root ws (root ws i) (root_fixed ws i low)

-- a node below a node has a row, and so have the root and the parent of a node
pub node_below : (ws : List ℕ) (i j : ℕ) → IsNode ws i → j ≤ i → IsNode ws j
node_below ws i j node le = omega arith

pub root_node : (ws : List ℕ) (i : ℕ) → Low ws → IsNode ws i → IsNode ws (root ws i)
root_node ws i low node = node_below ws i (root ws i) node (root_le ws i low)

pub parent_node : (ws : List ℕ) (i : ℕ) → Low ws → IsNode ws i → IsNode ws (parent ws i)
parent_node ws i low node = node_below ws i (parent ws i) node (low i)

-- two forests have the same roots if each new parent has the old root of its node, and each new root was one
pub same_roots : (old new : List ℕ) → Low old → Low new → ((i : ℕ) → root old (parent new i) ≡ root old i) → ((i : ℕ) → parent new i ≡ i → parent old i ≡ i) → (i : ℕ) → root new i ≡ root old i
same_roots old new low_old low_new same fixed i =
    root_is (λ j. root old j) new i low_new same (λ j e. fixed_root old j (fixed j e))

-- the root high was put under the root low
module _ (old new : List ℕ) (low high : ℕ) (le : Low old) (lower : low < high) where
  pub linked_low : parent new high ≡ low → ((i : ℕ) → i ≢ high → parent new i ≡ parent old i) → Low new
  linked_low under others i = elim (cases_eq i high) [ inl e ↦ rw e (omega arith) | inr ne ↦ omega (arith, others i ne, le i) ]

  abbrev put : ℕ → ℕ
  put r = cond (r == high) low r

  put_high : put high ≡ low
  put_high = cond-true (high == high) low high (eq-eqb high high refl)

  put_other : (r : ℕ) → r ≢ high → put r ≡ r
  put_other r ne = cond-false (r == high) low r (ne_eqb r high ne)

  pub root_linked : parent old low ≡ low → parent old high ≡ high → parent new high ≡ low → ((i : ℕ) → i ≢ high → parent new i ≡ parent old i) → (i : ℕ) → root new i ≡ cond (root old i == high) low (root old i)
  root_linked low_root high_root under others i =
      let at_low : put (root old low) ≡ low = rw (fixed_root old low low_root) (put_other low (omega arith)) in
      let at_high : put (root old high) ≡ low = rw (fixed_root old high high_root) put_high in
      root_is (λ j. put (root old j)) new i (linked_low under others)
      (λ j. elim (cases_eq j high) [
        | inl e ↦ rw (e, under) (at_low ∙ sym at_high)
        | inr ne ↦ rw (others j ne) (ap put (root_parent old j le))
      ])
      (λ j e.
      let ne : j ≢ high = λ h. (let there : parent new j ≡ low = rw h under in omega arith) in
      rw (fixed_root old j (sym (others j ne) ∙ e)) (put_other j ne))

-- the sum of the parents, where one parent is another
sum_same : (n : ℕ) (old new : List ℕ) → ((j : ℕ) → j < n → parent new j ≡ parent old j) → sum_parents n new ≡ sum_parents n old
unfolding sum_parents
sum_same zero old new same = refl
sum_same (suc n) old new same =
    omega (arith, sum_same n old new (λ j h. same j (omega arith)), same n (omega arith))

sum_set : (n : ℕ) (old new : List ℕ) (i : ℕ) → i < n → ((j : ℕ) → j ≢ i → parent new j ≡ parent old j) → sum_parents n new + parent old i ≡ sum_parents n old + parent new i
unfolding sum_parents
sum_set zero old new i lt others = absurd (omega arith)
sum_set (suc n) old new i lt others = elim (cases_eq n i) [
  | inl e ↦ rw e (omega (arith, sum_same i old new (λ j h. others j (omega arith))))
  | inr ne ↦ omega (arith, others n ne, sum_set n old new i (omega arith) others)
]

pub weight_set : (old new : List ℕ) (i : ℕ) → length new ≡ length old → IsNode old i → ((j : ℕ) → j ≢ i → parent new j ≡ parent old j) → weight new + parent old i ≡ weight old + parent new i
unfolding weight
weight_set old new i long node others = rw long (sum_set (length old / 4) old new i (omega arith) others)

-- a written parent
pub parent_written : (ws : List ℕ) (i v : ℕ) → IsNode ws i → parent (set ws (4 * i) v) i ≡ v
parent_written ws i v node = get_or-set_same ws (4 * i) v 0 (omega arith)

pub parent_elsewhere : (ws : List ℕ) (i j v : ℕ) → j ≢ i → parent (set ws (4 * i) v) j ≡ parent ws j
parent_elsewhere ws i j v ne = get_or-set_other ws (4 * i) (4 * j) v 0 (omega arith)

pub part_kept : (ws : List ℕ) (i j side v : ℕ) → side < 3 → remembered (set ws (4 * i) v) j side ≡ remembered ws j side
part_kept ws i j side v sides = ap node_or_none (get_or-set_other ws (4 * i) (4 * j + 1 + side) v 0 (omega arith))

-- a written part
pub parent_kept : (ws : List ℕ) (i j side v : ℕ) → side < 3 → parent (set ws (4 * i + 1 + side) v) j ≡ parent ws j
parent_kept ws i j side v sides = get_or-set_other ws (4 * i + 1 + side) (4 * j) v 0 (omega arith)

pub part_elsewhere : (ws : List ℕ) (i j side other v : ℕ) → side < 3 → other < 3 → (j ≢ i) ⊎ (other ≢ side) → remembered (set ws (4 * i + 1 + side) v) j other ≡ remembered ws j other
part_elsewhere ws i j side other v sides others ne =
    ap node_or_none (get_or-set_other ws (4 * i + 1 + side) (4 * j + 1 + other) v 0 (λ e. elim ne [ inl n ↦ n (omega arith) | inr n ↦ n (omega arith) ]))

-- a part copied from another node
pub part_copied : (ws : List ℕ) (i j side : ℕ) → IsNode ws i → side < 3 → remembered (set ws (4 * i + 1 + side) (slice_index ws (4 * j + 1 + side))) i side ≡ remembered ws j side
part_copied ws i j side node sides = ap node_or_none (get_or-set_same ws (4 * i + 1 + side) (slice_index ws (4 * j + 1 + side)) 0 (omega arith))
