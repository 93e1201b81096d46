-- A join with its joins of parts makes the forest exact for one pair more. Assumes nothing.
use Rattle.std.proofs.Common.{◌≡◌, ℕ, suc, ◌+◌, ◌*◌, ◌<◌, ◌≤◌, ◌⊎◌, ltb, cond, List, ◌∷◌, length, Some, refl, sym, ap, ◌∙◌, inl, inr, arith}
use Rattle.std.proofs.lemmas.Bool.{cases_eq, cases_lt, cond_above, cond_below}
use Rattle.std.proofs.lemmas.List.{get_or_past}
use Rattle.recipe.specs.Common.{In}
use Rattle.closure.specs.Closures.{Closure}
use Rattle.closure.proofs.ClosureDecided.{Bounded, carried_decided}
use Rattle.closure.proofs.ClosureGrown.{closure_over}
use Rattle.closure.proofs.Growing.{numbers, in_numbers}
use Rattle.closure.proofs.Known.{known_both, known_option, known_in, known_pair, known_below, least_below}
use Rattle.forest.specs.Exact.{Parts, Joined, Exact, OneMore}
use Rattle.forest.specs.Rows.{IsNode, Rows, parent, root}
use Rattle.forest.specs.Steps.{Carries, Closed, Joins, Respects}
use Rattle.forest.proofs.Roots.{root_fixed, root_le, root_node, root_parent, root_root}

-- parts of nodes are nodes, and pairs are of nodes
module _ (sub : Parts) (pairs : List (ℕ × ℕ)) (ws : List ℕ) (nodes : (i side c : ℕ) → IsNode ws i → side < 3 → sub i side ≡ Some c → IsNode ws c) (told : (u v : ℕ) → In (u, v) pairs → IsNode ws u × IsNode ws v) where
  bounds : Bounded (λ u v. In (u, v) pairs) (λ u side c. (side < 3) × (sub u side ≡ Some c))
  bounds = record {
    equal = cases_eq;
    held_decided = λ u v. known_in (known_pair cases_eq cases_eq) (u, v) pairs;
    part_decided = λ u side c. known_both (known_below side 3) (known_option (sub u side) (Some c));
    Inside = IsNode ws;
    all = numbers (length ws);
    listed = λ u h. in_numbers (length ws) u (omega arith);
    held_inside = told;
    part_inside = λ u side c h p. nodes u side c h p.0 p.1;
    one_part = λ u side c d p q. let e = p.1 in let f = q.1 in cc;
    steps = numbers 3;
    stays = λ u side c p. inl (in_numbers 3 side p.0);
  }

  -- the lowest node that a node is joined with
  lowest : (i : ℕ) → (r : ℕ) × Joined sub pairs i r × ((k : ℕ) → Joined sub pairs i k → r ≤ k)
  lowest i = elim (least_below (Joined sub pairs i) (carried_decided bounds i) (suc i)) [ inl f ↦ (f.0, f.2.has, f.2.lowest) | inr none ↦ absurd (none i (omega arith) Closure.itself) ]

  joined_lowest : (i j : ℕ) → Joined sub pairs i j → (lowest i).0 ≡ (lowest j).0
  joined_lowest i j joined =
      let below = (lowest i).2 (lowest j).0 (Closure.chain joined (lowest j).1) in
      let above = (lowest j).2 (lowest i).0 (Closure.chain (Closure.back joined) (lowest i).1) in
      omega arith

  lowest_joined : (i j : ℕ) → (lowest i).0 ≡ (lowest j).0 → Joined sub pairs i j
  lowest_joined i j e = Closure.chain (lowest i).1 (Closure.back (rw (← e) at (lowest j).1))

  -- its label: nodes without a row have that of node 0, their root
  label : ℕ → ℕ
  label i = cond (ltb (4 * i + 3) (length ws)) (lowest i).0 (lowest 0).0

  label_node : (i : ℕ) → IsNode ws i → label i ≡ (lowest i).0
  unfolding label
  label_node i h = sym (cond_below (4 * i + 3) (length ws) _ _ h)

  label_past : (i : ℕ) → length ws ≤ 4 * i + 3 → label i ≡ (lowest 0).0
  unfolding label
  label_past i h = sym (cond_above (4 * i + 3) (length ws) _ _ _ h refl)

  label_first : label 0 ≡ (lowest 0).0
  label_first = elim (cases_lt 3 (length ws)) [ inl h ↦ label_node 0 h | inr past ↦ label_past 0 past ]

  joined_label : (i j : ℕ) → IsNode ws i → IsNode ws j → Joined sub pairs i j → label i ≡ label j
  joined_label i j h k joined = label_node i h ∙ joined_lowest i j joined ∙ sym (label_node j k)

  label_joined : (i j : ℕ) → IsNode ws i → IsNode ws j → label i ≡ label j → Joined sub pairs i j
  label_joined i j h k e = lowest_joined i j (sym (label_node i h) ∙ e ∙ label_node j k)

  label_closed : Closed sub ws label
  label_closed i j side c d h k sides e p q =
      joined_label c d (nodes i side c h sides p) (nodes j side d k sides q) (Closure.part (label_joined i j h k e) (sides, p) (sides, q))

-- a node without a row has the root 0
root_past : (ws : List ℕ) (i : ℕ) → Rows ws → length ws ≤ 4 * i + 3 → root ws i ≡ 0
root_past ws i rows past =
    let up : parent ws i ≡ 0 = get_or_past ws (4 * i) 0 (omega (arith, rows.whole.1)) in
    let zero_root : root ws 0 ≡ 0 = omega (arith, root_le ws 0 rows.low) in
    sym (root_parent ws i rows.low) ∙ ap (root ws) up ∙ zero_root

-- one pair more
module _ (u v : ℕ) (old new : List ℕ) (rows : Rows old) (first : IsNode old u) (second : IsNode old v) (step : Joins u v old new) (sub : Parts) (pairs : List (ℕ × ℕ)) (exact : Exact sub pairs old) where
  -- the parts of two joined nodes have one old root
  part_root : (i side c j d : ℕ) → IsNode old i → IsNode old j → side < 3 → root old i ≡ root old j → sub i side ≡ Some c → sub j side ≡ Some d → root old c ≡ root old d
  part_root i side c j d h k sides e p q =
      (exact.classes c d (exact.nodes i side c h sides p) (exact.nodes j side d k sides q)).1 (Closure.part ((exact.classes i j h k).0 e) (sides, p) (sides, q))

  same_new : (c d : ℕ) → root old c ≡ root old d → root new c ≡ root new d
  same_new c d e = sym (step.coarser c) ∙ ap (root new) e ∙ step.coarser d

  carries_old : Carries sub old (root new)
  carries_old i side c h sides p =
      let (d, kept) = exact.some i side c h sides p in
      let (j, k, same, q) = exact.of_class (root old i) side d (root_node old i rows.low h) sides (root_fixed old i rows.low) kept in
      (d, kept, same_new c d (part_root i side c j d h k sides (sym same) p q))

  carries_new : Carries sub new (root new)
  carries_new = step.carried sub (root new) (λ i. root_root new i step.rows.low) carries_old

  told : (a b : ℕ) → In (a, b) ((u, v) ∷ pairs) → IsNode old a × IsNode old b
  told a b (inl e) = rw (ap (λ w. w.0) e, ap (λ w. w.1) e) (first, second)
  told a b (inr i) = exact.told a b i

  -- two joined nodes are one, or nodes of one class
  abbrev Placed : ℕ → ℕ → Type 0
  Placed a b = (a ≡ b) ⊎ (IsNode old a × IsNode old b × (root new a ≡ root new b))

  placed_part : (a b c d side : ℕ) → Placed a b → side < 3 → sub a side ≡ Some c → sub b side ≡ Some d → Placed c d
  placed_part a b c d side (inl e) sides p q = inl cc
  placed_part a b c d side (inr (h, k, e)) sides p q =
      let (x, m, s) = carries_new a side c (omega (arith, step.long)) sides p in
      let (y, n, t) = carries_new b side d (omega (arith, step.long)) sides q in
      inr (exact.nodes a side c h sides p, exact.nodes b side d k sides q, cc)

  placed_chain : (a b c : ℕ) → Placed a b → Placed b c → Placed a c
  placed_chain a b c (inl e) w = rw e w
  placed_chain a b c (inr (h, k, e)) (inl f) = inr (h, rw f at k, e ∙ ap (root new) f)
  placed_chain a b c (inr (h, k, e)) (inr (k', l, f)) = inr (h, l, e ∙ f)

  placed_held : (a b : ℕ) → In (a, b) ((u, v) ∷ pairs) → Placed a b
  placed_held a b (inl e) = inr (rw (ap (λ w. w.0) e, ap (λ w. w.1) e) (first, second, step.joined))
  placed_held a b (inr i) =
      let (h, k) = exact.told a b i in
      inr (h, k, same_new a b ((exact.classes a b h k).1 (Closure.held i)))

  joined_placed : {a b : ℕ} → Joined sub ((u, v) ∷ pairs) a b → Placed a b
  joined_placed Closure.itself = inl refl
  joined_placed (Closure.back c) = elim (joined_placed c) [ inl e ↦ inl (sym e) | inr w ↦ inr (w.1, w.0, sym w.2) ]
  joined_placed (Closure.chain c d) = placed_chain _ _ _ (joined_placed c) (joined_placed d)
  joined_placed (Closure.held {u = a} {v = b} i) = placed_held a b i
  joined_placed (Closure.part c i j) = placed_part _ _ _ _ _ (joined_placed c) i.0 i.1 j.1

  one_class : (a b : ℕ) → Joined sub ((u, v) ∷ pairs) a b → root new a ≡ root new b
  one_class a b joined = elim (joined_placed joined) [ inl e ↦ ap (root new) e | inr w ↦ w.2 ]

  -- the label of a node by the pairs with the new one
  abbrev with_new : ℕ → ℕ
  with_new = label sub ((u, v) ∷ pairs) old exact.nodes told

  label_root : (i : ℕ) → ((4 * i + 3 < length old) ⊎ (length old ≤ 4 * i + 3)) → with_new (root old i) ≡ with_new i
  label_root i (inl h) =
      let r = root_node old i rows.low h in
      joined_label _ _ _ _ _ (root old i) i r h (closure_over (λ a b m. inr m) ((exact.classes (root old i) i r h).0 (root_root old i rows.low)))
  label_root i (inr past) = ap with_new (root_past old i rows past) ∙ label_first _ _ _ _ _ ∙ sym (label_past _ _ _ _ _ i past)

  respects_new : Respects with_new new
  respects_new =
      step.derived sub with_new exact.of_class (label_closed _ _ _ _ _) (λ i. label_root i (cases_lt (4 * i + 3) (length old)))
      (joined_label _ _ _ _ _ u v first second (Closure.held (inl refl)))

  one_joined : (a b : ℕ) → IsNode old a → IsNode old b → root new a ≡ root new b → Joined sub ((u, v) ∷ pairs) a b
  one_joined a b h k e = label_joined sub ((u, v) ∷ pairs) old exact.nodes told a b h k (sym (respects_new a) ∙ ap with_new e ∙ respects_new b)

  exact_new : Exact sub ((u, v) ∷ pairs) new
  exact_new = record {
    rows = step.rows;
    nodes = λ i side c h sides p. let n = exact.nodes i side c (omega (arith, step.long, h)) sides p in omega (arith, step.long, n);
    told = λ a b i. let (h, k) = told a b i in (omega (arith, step.long, h), omega (arith, step.long, k));
    classes = λ a b h k. (one_joined a b (omega (arith, step.long, h)) (omega (arith, step.long, k)), one_class a b);
    some = λ i side c h sides p. let (d, kept, same) = carries_new i side c h sides p in (d, kept);
    of_class = step.of_class sub exact.of_class;
  }

pub one_more : (u v : ℕ) (old new : List ℕ) → Rows old → IsNode old u → IsNode old v → Joins u v old new → OneMore u v old new
one_more u v old new rows first second step sub pairs exact = exact_new u v old new rows first second step sub pairs exact
