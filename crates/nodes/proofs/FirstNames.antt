-- The rows that a forest over names starts with. Assumes nothing.
use Rattle.std.proofs.Common.{◌≡◌, ℕ, zero, suc, ◌+◌, ◌*◌, ◌/◌, ◌%◌, ◌<◌, List, [], length, slice_index, set, Some, refl, ap, ◌∙◌, arith, get_or-set_same, get_or-set_other, length-set}
use Rattle.std.proofs.Math.Nat.{div-lt_iff_lt-mul, mul_comm, zero-mul}
use Rattle.std.proofs.lemmas.Nat.{div-add-mod'}
use Rattle.recipe.specs.Tables.{Table}
use Rattle.recipe.specs.Validity.{Ordered}
use Rattle.closure.specs.Names.{Node}
use Rattle.forest.specs.Exact.{Exact}
use Rattle.forest.specs.Rows.{IsNode, node_or_none, parent, remembered}
use Rattle.nodes.specs.NameClasses.{InTable, name_parts, node_number}
use Rattle.nodes.specs.NameRows.{OwnNames, written_name, written_names}
use Rattle.nodes.specs.Starting.{OwnParts}
use Rattle.nodes.specs.Records.{written}
use Rattle.nodes.proofs.FirstRows.{form_written}
use Rattle.nodes.proofs.NameNumbers.{name_of, number_below, number_of_part, part_of_number, place_of}
use Rattle.nodes.proofs.OwnParts.{own_exact}

-- the four words of a node set
abbrev pub with_node : List ℕ → ℕ → ℕ → ℕ → ℕ → ℕ → List ℕ
with_node rows i own left right inside = set (set (set (set rows (4 * i) own) (4 * i + 1) left) (4 * i + 2) right) (4 * i + 3) inside

module _ (rows : List ℕ) (i own left right inside : ℕ) (node : IsNode rows i) where
  new_parent : parent (with_node rows i own left right inside) i ≡ own
  new_parent =
      get_or-set_other (set (set (set rows (4 * i) own) (4 * i + 1) left) (4 * i + 2) right) (4 * i + 3) (4 * i) inside 0 (omega arith)
      ∙ get_or-set_other (set (set rows (4 * i) own) (4 * i + 1) left) (4 * i + 2) (4 * i) right 0 (omega arith)
      ∙ get_or-set_other (set rows (4 * i) own) (4 * i + 1) (4 * i) left 0 (omega arith)
      ∙ get_or-set_same rows (4 * i) own 0 (omega arith)

  new_left : slice_index (with_node rows i own left right inside) (4 * i + 1) ≡ left
  new_left =
      get_or-set_other (set (set (set rows (4 * i) own) (4 * i + 1) left) (4 * i + 2) right) (4 * i + 3) (4 * i + 1) inside 0 (omega arith)
      ∙ get_or-set_other (set (set rows (4 * i) own) (4 * i + 1) left) (4 * i + 2) (4 * i + 1) right 0 (omega arith)
      ∙ get_or-set_same (set rows (4 * i) own) (4 * i + 1) left 0 (omega (arith, length-set {A = ℕ}))

  new_right : slice_index (with_node rows i own left right inside) (4 * i + 2) ≡ right
  new_right =
      get_or-set_other (set (set (set rows (4 * i) own) (4 * i + 1) left) (4 * i + 2) right) (4 * i + 3) (4 * i + 2) inside 0 (omega arith)
      ∙ get_or-set_same (set (set rows (4 * i) own) (4 * i + 1) left) (4 * i + 2) right 0 (omega (arith, length-set {A = ℕ}))

  new_inside : slice_index (with_node rows i own left right inside) (4 * i + 3) ≡ inside
  new_inside = get_or-set_same (set (set (set rows (4 * i) own) (4 * i + 1) left) (4 * i + 2) right) (4 * i + 3) inside 0 (omega (arith, length-set {A = ℕ}))

  new_parts : (side : ℕ) → side < 3 → (P : ℕ → ℕ → Type 0) → P 0 left → P 1 right → P 2 inside → P side (slice_index (with_node rows i own left right inside) (4 * i + 1 + side))
  new_parts zero h P l r n = let at : 4 * i + 1 + 0 ≡ 4 * i + 1 = omega arith in rw (at, new_left) l
  new_parts (suc zero) h P l r n = let at : 4 * i + 1 + 1 ≡ 4 * i + 2 = omega arith in rw (at, new_right) r
  new_parts (suc (suc zero)) h P l r n = let at : 4 * i + 1 + 2 ≡ 4 * i + 3 = omega arith in rw (at, new_inside) n
  new_parts (suc (suc (suc k))) h P l r n = absurd (omega arith)

-- the node of a name with the words of its parts
pub own_name : (ws rows : List ℕ) (m p x i left right inside : ℕ) → x < m → i ≡ suc (p * m + x) → IsNode rows i →
    node_or_none left ≡ written_name ws m p x 0 → node_or_none right ≡ written_name ws m p x 1 → node_or_none inside ≡ written_name ws m p x 2 →
    OwnParts (written_names ws m) (with_node rows i i left right inside) (suc (p * m + x))
own_name ws rows m p x i left right inside low is node l r n =
    let parts : (side : ℕ) → side < 3 → remembered (with_node rows i i left right inside) i side ≡ written_name ws m p x side = λ side h. new_parts rows i i left right inside node side h (λ s w. node_or_none w ≡ written_name ws m p x s) l r n in
    rw (← is) (record {
      own = new_parent rows i i left right inside node;
      parts = λ side h. parts side h ∙ rw is (rw (place_of m p x low, name_of m p x low));
    })

-- the place and the name of a number below m * n
place_inside : (m n k : ℕ) → k < m * n → (k / m < n) × (k % m < m)
place_inside zero n k low = absurd (let none = zero-mul n in omega arith)
place_inside (suc m) n k low = ((div-lt_iff_lt-mul {k = suc m} {x = k} {y = n} (omega arith)).1 (rw (mul_comm n (suc m)) low), omega arith)

module _ {L : Type 0} (T : Table L) (m : ℕ) where
  -- each row is of a node in the table
  node_at : (k : ℕ) → k < suc (m * T.size) → (a : Node) × InTable T m a × (node_number m a ≡ k)
  node_at zero low = (Node.nowhere, InTable.nowhere, refl)
  node_at (suc k) low =
      let (first, second) = place_inside m T.size k (omega arith) in
      (Node.name (k / m) (k % m), InTable.name first second, ap suc (div-add-mod' k m))

  -- and its parts have rows
  pub part_below : Ordered T → (i side c : ℕ) → i < suc (m * T.size) → side < 3 → name_parts T m i side ≡ Some c → c < suc (m * T.size)
  part_below ordered i side c low h e =
      let (a, inside, is) = node_at i low in
      let (b, part, so) = part_of_number T m ordered side c inside (rw is e) in
      rw so at (number_below T m (number_of_part T m ordered inside part).inside)

module _ (n m : ℕ) (ws : List ℕ) where
  -- the parts that the words write are those of the table
  parts_written : (i side : ℕ) → i < suc (m * n) → written_names ws m i side ≡ name_parts (written n ws) m i side
  parts_written zero side low = refl
  parts_written (suc k) side low = let inside = (place_inside m n k (omega arith)).0 in rw (form_written n ws (k / m) inside) refl

  -- so such rows are exact for no pairs
  pub names_exact : Ordered (written n ws) → (rows : List ℕ) → length rows ≡ 4 * suc (m * n) → OwnNames ws m rows (suc (m * n)) → Exact (name_parts (written n ws) m) [] rows
  names_exact ordered rows long own =
      own_exact (name_parts (written n ws) m) (suc (m * n)) (part_below (written n ws) m ordered) rows long
      (λ i low. record { own = (own i low).own; parts = λ side h. (own i low).parts side h ∙ parts_written i side low })
