-- What joins of parts do to a forest, one after the other, after a root was put under a lower one. Assumes nothing.
use Rattle.std.proofs.Common.{◌≡◌, ◌≢◌, ◌⊎◌, ℕ, ◌+◌, ◌<◌, ◌≤◌, min, max, List, length, Some, None, Option, inl, inr, refl, sym, ap, ◌∙◌, arith}
use Rattle.std.proofs.lemmas.Bool.{cases_eq, cases_lt, eq-eqb, ne_eqb}
use Rattle.std.proofs.lemmas.Option.{none-some, same_Some}
use Rattle.std.specs.Option.{option_or}
use Rattle.forest.specs.Exact.{Parts}
use Rattle.forest.specs.Rows.{IsNode, Rows, SameForest, parent, remembered, root, weight}
use Rattle.forest.specs.Steps.{Carries, Closed, Joins, Links, OfClass, Respects}
use Rattle.forest.proofs.Roots.{fixed_root, node_below, root_fixed, root_le, root_root}

-- what every step keeps
pub record Moves (old new : List ℕ) : Type 0 where
  pub rows : Rows new
  pub long : length new ≡ length old
  pub lighter : weight new ≤ weight old
  pub coarser : (i : ℕ) → root new (root old i) ≡ root new i
  pub kept : (i side d : ℕ) → side < 3 → remembered old i side ≡ Some d → remembered new i side ≡ Some d
  pub still : (i side : ℕ) → side < 3 → root old i ≢ i → remembered new i side ≡ remembered old i side
  pub of_class : (sub : Parts) → OfClass sub old → OfClass sub new

moves_none : (ws : List ℕ) → Rows ws → Moves ws ws
moves_none ws rows = record {
  rows = rows;
  long = refl;
  lighter = omega arith;
  coarser = λ i. root_root ws i rows.low;
  kept = λ i side d h e. e;
  still = λ i side h n. refl;
  of_class = λ sub o. o;
}

-- a node that is no root does not become one
no_root : (old new : List ℕ) → Rows old → Moves old new → (i : ℕ) → root old i ≢ i → root new i ≢ i
no_root old new rows m i n e =
    let le = root_le old i rows.low in
    let le2 = root_le new (root old i) m.rows.low in
    let same = m.coarser i in
    n (omega arith)

moves_chain : (a b c : List ℕ) → Rows a → Moves a b → Moves b c → Moves a c
moves_chain a b c rows m n = record {
  rows = n.rows;
  long = n.long ∙ m.long;
  lighter = omega (arith, m.lighter, n.lighter);
  coarser = λ i. sym (n.coarser (root a i)) ∙ ap (root c) (m.coarser i) ∙ n.coarser i;
  kept = λ i side d h e. n.kept i side d h (m.kept i side d h e);
  still = λ i side h r. n.still i side h (no_root a b rows m i r) ∙ m.still i side h r;
  of_class = λ sub o. n.of_class sub (m.of_class sub o);
}

joins_moves : (u v : ℕ) (old new : List ℕ) → Joins u v old new → Moves old new
joins_moves u v old new j = record {
  rows = j.rows;
  long = j.long;
  lighter = j.lighter;
  coarser = j.coarser;
  kept = j.kept;
  still = j.still;
  of_class = j.of_class;
}

same_of_class : (old new : List ℕ) → Rows old → SameForest old new → (sub : Parts) → OfClass sub old → OfClass sub new
same_of_class old new rows s sub o r side d node h fixed e =
    let is_root : root old r ≡ r = sym (s.roots r) ∙ fixed_root new r fixed in
    let was : parent old r ≡ r = rw is_root at (root_fixed old r rows.low) in
    let (i, p, q, t) = o r side d (rw s.long at node) h was (sym (s.parts r side h) ∙ e) in
    (i, rw s.long p, s.roots i ∙ q, t)

same_moves : (old new : List ℕ) → Rows old → SameForest old new → Moves old new
same_moves old new rows s = record {
  rows = s.rows;
  long = s.long;
  lighter = s.lighter;
  coarser = λ i. s.roots (root old i) ∙ root_root old i rows.low ∙ sym (s.roots i);
  kept = λ i side d h e. s.parts i side h ∙ e;
  still = λ i side h n. s.parts i side h;
  of_class = same_of_class old new rows s;
}

pub same_chain : (a b c : List ℕ) → SameForest a b → SameForest b c → SameForest a c
same_chain a b c s t = record {
  rows = t.rows;
  long = t.long ∙ s.long;
  lighter = omega (arith, s.lighter, t.lighter);
  roots = λ i. t.roots i ∙ s.roots i;
  parts = λ i side h. t.parts i side h ∙ s.parts i side h;
}

-- a labelling that respects a coarser forest respects the finer one
respects_back : (old new : List ℕ) (label : ℕ → ℕ) → ((i : ℕ) → root new (root old i) ≡ root new i) → Respects label new → Respects label old
respects_back old new label coarser r i = sym (r (root old i)) ∙ ap label (coarser i) ∙ r i

-- the nodes are told by the length alone
closed_along : (old new : List ℕ) (sub : Parts) (label : ℕ → ℕ) → length new ≡ length old → Closed sub old label → Closed sub new label
closed_along old new sub label long closed i j side c d p q = closed i j side c d (rw long at p) (rw long at q)

same_carries : (old new : List ℕ) (sub : Parts) (label : ℕ → ℕ) → SameForest old new → Carries sub old label → Carries sub new label
same_carries old new sub label s carries i side c p h e =
    let (d, has, same) = carries i side c (rw s.long at p) h e in
    (d, ap (λ r. remembered new r side) (s.roots i) ∙ s.parts (root old i) side h ∙ has, same)

same_respects : (old new : List ℕ) (label : ℕ → ℕ) → SameForest old new → Respects label old → Respects label new
same_respects old new label s r i = ap label (s.roots i) ∙ r i

-- two nodes of one class
pub joins_none : (u v : ℕ) (old new : List ℕ) → Rows old → SameForest old new → root new u ≡ root new v → Joins u v old new
joins_none u v old new rows s e =
    let m = same_moves old new rows s in
    record {
      rows = m.rows;
      long = m.long;
      lighter = m.lighter;
      coarser = m.coarser;
      joined = e;
      kept = m.kept;
      still = m.still;
      of_class = m.of_class;
      carried = λ sub label r. same_carries old new sub label s;
      derived = λ sub label o closed r same. same_respects old new label s r;
    }

-- what a root has or takes
or_had : (o p : Option ℕ) (d : ℕ) → o ≡ Some d → option_or o p ≡ Some d
or_had o p d e = rw e refl

or_took : (o p : Option ℕ) (d : ℕ) → option_or o p ≡ Some d → (o ≡ Some d) ⊎ (p ≡ Some d)
or_took None p d e = inr e
or_took (Some c) p d e = inl e

-- a part of high: low has one after it, its own, or that
or_other : (o p : Option ℕ) (d : ℕ) → p ≡ Some d → ((c : ℕ) × (o ≡ Some c) × (option_or o p ≡ Some c)) ⊎ (option_or o p ≡ Some d)
or_other None p d e = inr e
or_other (Some c) p d e = inl (c, refl, refl)

module _ (low high : ℕ) (near mid : List ℕ) (rows : Rows near) (node : IsNode near high) (lower : low < high) (low_root : root near low ≡ low) (high_root : root near high ≡ high) (l : Links low high near mid) where
  root_under : (i : ℕ) → root near i ≡ high → root mid i ≡ low
  root_under i e = l.roots i ∙ rw (eq-eqb (root near i) high e) refl

  root_else : (i : ℕ) → root near i ≢ high → root mid i ≡ root near i
  root_else i n = l.roots i ∙ rw (ne_eqb (root near i) high n) refl

  root_low : (i : ℕ) → root near i ≡ low → root mid i ≡ low
  root_low i e = root_else i (omega arith) ∙ e

  -- a class of the old forest is in one of the new
  linked_coarser : (i : ℕ) → root mid (root near i) ≡ root mid i
  linked_coarser i =
      let twice = root_root near i rows.low in
      elim (cases_eq (root near i) high) [
        | inl e ↦ root_under (root near i) (twice ∙ e) ∙ sym (root_under i e)
        | inr n ↦ root_else (root near i) (λ e. n (sym twice ∙ e)) ∙ twice ∙ sym (root_else i n)
      ]

  linked_kept : (i side d : ℕ) → side < 3 → remembered near i side ≡ Some d → remembered mid i side ≡ Some d
  linked_kept i side d h e = elim (cases_eq i low) [
    | inl o ↦ rw o (l.taken side h ∙ or_had (remembered near low side) (remembered near high side) d (rw o at e))
    | inr n ↦ l.others i side h n ∙ e
  ]

  -- a root that is left was one, and is not high
  root_left : (r : ℕ) → root mid r ≡ r → (root near r ≡ r) × (r ≢ high)
  root_left r fixed = elim (cases_eq (root near r) high) [
    | inl e ↦ let is_low : r ≡ low = sym fixed ∙ root_under r e in absurd (let at_low : low ≡ high = sym low_root ∙ ap (root near) (sym is_low) ∙ e in omega arith)
    | inr n ↦ let was : root near r ≡ r = sym (root_else r n) ∙ fixed in (was, λ e. n (was ∙ e))
  ]

  low_node : IsNode near low
  low_node = node_below near high low node (omega arith)

  abbrev PartAt : Parts → List ℕ → ℕ → ℕ → ℕ → Type 0
  PartAt sub ws r side d = (i : ℕ) × IsNode ws i × (root ws i ≡ r) × (sub i side ≡ Some d)

  root_near : (r : ℕ) → root near r ≡ r → parent near r ≡ r
  root_near r e = rw e at (root_fixed near r rows.low)

  part_low : (sub : Parts) → OfClass sub near → (side d : ℕ) → side < 3 → remembered near low side ≡ Some d → PartAt sub near low side d
  part_low sub o side d h e = o low side d low_node h (root_near low low_root) e

  part_high : (sub : Parts) → OfClass sub near → (side d : ℕ) → side < 3 → remembered near high side ≡ Some d → PartAt sub near high side d
  part_high sub o side d h e = o high side d node h (root_near high high_root) e

  -- what low remembers now, of either class
  part_either : (sub : Parts) → OfClass sub near → (side d : ℕ) → side < 3 → remembered mid low side ≡ Some d → PartAt sub near low side d ⊎ PartAt sub near high side d
  part_either sub o side d h e =
      elim (or_took (remembered near low side) (remembered near high side) d (sym (l.taken side h) ∙ e)) [
        | inl f ↦ inl (part_low sub o side d h f)
        | inr f ↦ inr (part_high sub o side d h f)
      ]

  linked_of_class : (sub : Parts) → OfClass sub near → OfClass sub mid
  linked_of_class sub o r side d p h fixed e =
      let (was, apart) = root_left r (fixed_root mid r fixed) in
      elim (cases_eq r low) [
        | inl is_low ↦ elim (part_either sub o side d h (rw is_low at e)) [
          | inl (i, q, f, t) ↦ (i, rw l.long q, root_low i f ∙ sym is_low, t)
          | inr (i, q, f, t) ↦ (i, rw l.long q, root_under i f ∙ sym is_low, t)
        ]
        | inr n ↦
            let (i, q, f, t) = o r side d (rw l.long at p) h (root_near r was) (sym (l.others r side h n) ∙ e) in
            (i, rw l.long q, root_else i (λ g. apart (sym f ∙ g)) ∙ f, t)
      ]

  linked_moves : Moves near mid
  linked_moves = record {
    rows = l.rows;
    long = l.long;
    lighter = omega (arith, l.falls);
    coarser = linked_coarser;
    kept = linked_kept;
    still = λ i side h n. l.others i side h (λ e. n (rw e low_root));
    of_class = linked_of_class;
  }

  -- parts go over, if the two of each side have one label
  linked_carries : (sub : Parts) (label : ℕ → ℕ) → ((side d e : ℕ) → side < 3 → remembered mid low side ≡ Some d → remembered mid high side ≡ Some e → label d ≡ label e) →
      Carries sub near label → Carries sub mid label
  linked_carries sub label met carries i side c p h e =
      let (d, has, same) = carries i side c (rw l.long at p) h e in
      elim (cases_eq (root near i) high) [
        | inl f ↦
            let at_high : remembered near high side ≡ Some d = rw f at has in
            let stays : remembered mid high side ≡ Some d = l.others high side h (omega arith) ∙ at_high in
            let under = root_under i f in
            elim (or_other (remembered near low side) (remembered near high side) d at_high) [
              | inl (b, own, or) ↦ let at_low : remembered mid low side ≡ Some b = l.taken side h ∙ or in (b, rw under at_low, same ∙ sym (met side b d h at_low stays))
              | inr or ↦ (d, rw under (l.taken side h ∙ or), same)
            ]
        | inr n ↦ (d, rw (root_else i n) (linked_kept (root near i) side d h has), same)
      ]

  -- a closed labelling gives the two parts of each side one label, if it gives one to the two roots
  linked_parts : (sub : Parts) (label : ℕ → ℕ) → OfClass sub near → Closed sub near label → Respects label near → label low ≡ label high →
      (side d e : ℕ) → side < 3 → remembered mid low side ≡ Some d → remembered mid high side ≡ Some e → label d ≡ label e
  linked_parts sub label o closed r same side d e h at_low at_high =
      let (j, q, g, u) = part_high sub o side e h (sym (l.others high side h (omega arith)) ∙ at_high) in
      let label_j : label j ≡ label high = sym (r j) ∙ ap label g in
      elim (part_either sub o side d h at_low) [
        | inl (i, p, f, t) ↦ closed i j side d e p q h (sym (r i) ∙ ap label f ∙ same ∙ sym label_j) t u
        | inr (i, p, f, t) ↦ closed i j side d e p q h (sym (r i) ∙ ap label f ∙ sym label_j) t u
      ]

  linked_respects : (label : ℕ → ℕ) → Respects label near → label low ≡ label high → Respects label mid
  linked_respects label r same i = elim (cases_eq (root near i) high) [
    | inl e ↦ ap label (root_under i e) ∙ same ∙ ap label (sym e) ∙ r i
    | inr n ↦ ap label (root_else i n) ∙ r i
  ]

  -- high is no root, and where it remembers a part low does too
  high_under : root mid high ≢ high
  high_under e = let u = root_under high high_root in omega arith

  low_too : (side e : ℕ) → side < 3 → remembered mid high side ≡ Some e → (d : ℕ) × (remembered mid low side ≡ Some d)
  low_too side e h at_high =
      let was : remembered near high side ≡ Some e = sym (l.others high side h (omega arith)) ∙ at_high in
      elim (or_other (remembered near low side) (remembered near high side) e was) [
        | inl (b, own, or) ↦ (b, l.taken side h ∙ or)
        | inr or ↦ (e, l.taken side h ∙ or)
      ]

-- the two parts of each of the first k sides were joined, and what they carry to parts
pub record Sides (low high k : ℕ) (mid ws : List ℕ) : Type 0 where
  pub moves : Moves mid ws
  pub joined : (side d e : ℕ) → side < 3 → side < k → remembered mid low side ≡ Some d → remembered mid high side ≡ Some e → root ws d ≡ root ws e
  pub carried : (sub : Parts) (label : ℕ → ℕ) → Respects label ws → Carries sub mid label → Carries sub ws label
  pub derived : (sub : Parts) (label : ℕ → ℕ) → OfClass sub mid → Closed sub mid label → Respects label mid →
      ((side d e : ℕ) → side < 3 → remembered mid low side ≡ Some d → remembered mid high side ≡ Some e → label d ≡ label e) → Respects label ws

pub sides_none : (low high : ℕ) (mid : List ℕ) → Rows mid → Sides low high 0 mid mid
sides_none low high mid rows = record {
  moves = moves_none mid rows;
  joined = λ side d e h below. absurd (omega arith);
  carried = λ sub label r carries. carries;
  derived = λ sub label o closed r met. r;
}

-- a side at which one of the two has no part
pub sides_skip : (low high k : ℕ) (mid ws : List ℕ) → k < 3 → Sides low high k mid ws → (remembered ws low k ≡ None) ⊎ (remembered ws high k ≡ None) → Sides low high (k + 1) mid ws
sides_skip low high k mid ws sides s none = record {
  moves = s.moves;
  joined = λ side d e h below at_low at_high. elim (cases_eq side k) [
    | inl is_k ↦ absurd (elim none [
      | inl n ↦ none-some d (sym n ∙ s.moves.kept low k d sides (rw is_k at at_low))
      | inr n ↦ none-some e (sym n ∙ s.moves.kept high k e sides (rw is_k at at_high))
    ])
    | inr n ↦ s.joined side d e h (omega arith) at_low at_high
  ];
  carried = s.carried;
  derived = s.derived;
}

-- a side whose two parts are joined
pub sides_joined : (low high k left right : ℕ) (mid ws new : List ℕ) → Rows mid → root mid high ≢ high →
    ((side e : ℕ) → side < 3 → remembered mid high side ≡ Some e → (d : ℕ) × (remembered mid low side ≡ Some d)) → k < 3 → Sides low high k mid ws →
    remembered ws low k ≡ Some left → remembered ws high k ≡ Some right → Joins left right ws new → Sides low high (k + 1) mid new
sides_joined low high k left right mid ws new rows under low_has sides s at_low at_high j =
    let right_was : remembered mid high k ≡ Some right = sym (s.moves.still high k sides under) ∙ at_high in
    let (b, had) = low_has k right sides right_was in
    let same_left : b ≡ left = same_Some b left (sym (s.moves.kept low k b sides had) ∙ at_low) in
    let left_was : remembered mid low k ≡ Some left = had ∙ ap (λ (x : ℕ). Some x) same_left in
    record {
      moves = moves_chain mid ws new rows s.moves (joins_moves left right ws new j);
      joined = λ side d e h below here there. elim (cases_eq side k) [
        | inl is_k ↦
            let d_is : d ≡ left = same_Some d left (sym (rw is_k at here) ∙ left_was) in
            let e_is : e ≡ right = same_Some e right (sym (rw is_k at there) ∙ right_was) in
            rw (d_is, e_is) j.joined
        | inr n ↦ sym (j.coarser d) ∙ ap (root new) (s.joined side d e h (omega arith) here there) ∙ j.coarser e
      ];
      carried = λ sub label r carries. j.carried sub label r (s.carried sub label (respects_back ws new label j.coarser r) carries);
      derived = λ sub label o closed r met.
          j.derived sub label (s.moves.of_class sub o) (closed_along mid ws sub label s.moves.long closed) (s.derived sub label o closed r met)
          (met k left right sides left_was right_was);
    }

-- the two roots, in either order
abbrev pub Ordered : ℕ → ℕ → ℕ → ℕ → Type 0
Ordered a b low high = ((a ≡ low) × (b ≡ high)) ⊎ ((a ≡ high) × (b ≡ low))

pub ordered : (a b low high : ℕ) → low ≡ min a b → high ≡ max a b → Ordered a b low high
ordered a b low high is_low is_high = elim (cases_lt a b) [ inl l ↦ inl (omega arith, omega arith) | inr l ↦ inr (omega arith, omega arith) ]

-- both are roots
pub ordered_roots : (u v low high : ℕ) (ws : List ℕ) → Rows ws → Ordered (root ws u) (root ws v) low high → (parent ws low ≡ low) × (parent ws high ≡ high)
ordered_roots u v low high ws rows (inl (a, b)) = (rw a at (root_fixed ws u rows.low), rw b at (root_fixed ws v rows.low))
ordered_roots u v low high ws rows (inr (a, b)) = (rw b at (root_fixed ws v rows.low), rw a at (root_fixed ws u rows.low))

ordered_labels : (u v low high : ℕ) (ws : List ℕ) (label : ℕ → ℕ) → Ordered (root ws u) (root ws v) low high → Respects label ws → label u ≡ label v → label low ≡ label high
ordered_labels u v low high ws label (inl (a, b)) r same = ap label (sym a) ∙ r u ∙ same ∙ sym (r v) ∙ ap label b
ordered_labels u v low high ws label (inr (a, b)) r same = ap label (sym b) ∙ r v ∙ sym same ∙ sym (r u) ∙ ap label a

-- a root is put under a lower one, and the parts of each side are joined
pub joins_all : (u v low high : ℕ) (old near mid new : List ℕ) → Rows old → SameForest old near → IsNode near high → low < high →
    Ordered (root near u) (root near v) low high → Links low high near mid → Sides low high 3 mid new → Joins u v old new
joins_all u v low high old near mid new rows s node lower pair l sides =
    let (low_fixed, high_fixed) = ordered_roots u v low high near s.rows pair in
    let low_root = fixed_root near low low_fixed in
    let high_root = fixed_root near high high_fixed in
    let first = same_moves old near rows s in
    let second = linked_moves low high near mid s.rows node lower low_root high_root l in
    let all = moves_chain old near new rows first (moves_chain near mid new s.rows second sides.moves) in
    let at_low = root_low low high near mid s.rows node lower low_root high_root l in
    let at_high = root_under low high near mid s.rows node lower low_root high_root l in
    let one : root mid u ≡ root mid v = elim pair [ inl (a, b) ↦ at_low u a ∙ sym (at_high v b) | inr (a, b) ↦ at_high u a ∙ sym (at_low v b) ] in
    record {
      rows = all.rows;
      long = all.long;
      lighter = all.lighter;
      coarser = all.coarser;
      joined = sym (sides.moves.coarser u) ∙ ap (root new) one ∙ sides.moves.coarser v;
      kept = all.kept;
      still = all.still;
      of_class = all.of_class;
      carried = λ sub label r carries.
          sides.carried sub label r
          (linked_carries low high near mid s.rows node lower low_root high_root l sub label
          (λ side d e h here there. sym (r d) ∙ ap label (sides.joined side d e h h here there) ∙ r e)
          (same_carries old near sub label s carries));
      derived = λ sub label o closed r same.
          let o_near = first.of_class sub o in
          let closed_near = closed_along old near sub label s.long closed in
          let r_near = same_respects old near label s r in
          let roots_same = ordered_labels u v low high near label pair r_near same in
          sides.derived sub label (second.of_class sub o_near) (closed_along near mid sub label l.long closed_near)
          (linked_respects low high near mid s.rows node lower low_root high_root l label r_near roots_same)
          (linked_parts low high near mid s.rows node lower low_root high_root l sub label o_near closed_near r_near roots_same);
    }

-- the next side, after a root was put under a lower one
pub sides_next : (u v low high k left right : ℕ) (near mid ws new : List ℕ) → Rows near → IsNode near high → low < high →
    Ordered (root near u) (root near v) low high → Links low high near mid → k < 3 → Sides low high k mid ws →
    remembered ws low k ≡ Some left → remembered ws high k ≡ Some right → Joins left right ws new → Sides low high (k + 1) mid new
sides_next u v low high k left right near mid ws new rows node lower pair l sides s at_low at_high j =
    let (low_fixed, high_fixed) = ordered_roots u v low high near rows pair in
    let low_root = fixed_root near low low_fixed in
    let high_root = fixed_root near high high_fixed in
    sides_joined low high k left right mid ws new l.rows (high_under low high near mid rows node lower low_root high_root l)
    (low_too low high near mid rows node lower low_root high_root l) sides s at_low at_high j
