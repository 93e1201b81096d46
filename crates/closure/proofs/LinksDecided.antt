-- Links, joined names and ways from place to place can be decided, and places have a rank. Assumes nothing.
use Rattle.std.proofs.Common.{◌≡◌, ℕ, suc, ◌+◌, ◌<◌, ◌≤◌, ◌≢◌, ◌⊎◌, List, sym, refl, ap, ◌∙◌, inl, inr, arith}
use Rattle.std.proofs.lemmas.Bool.{cases_eq}
use Rattle.recipe.specs.Common.{In, Least}
use Rattle.recipe.specs.Fillings.{Pair}
use Rattle.recipe.specs.Links.{Linked, Reaches, kind_of}
use Rattle.recipe.specs.Recipes.{Part}
use Rattle.recipe.specs.Tables.{Form, Table, parts}
use Rattle.recipe.specs.Tells.{NoCycle}
use Rattle.closure.specs.Closures.{Closure}
use Rattle.closure.specs.Decision.{WellFormed, OnlyHoles}
use Rattle.closure.specs.Names.{Node, Joined}
use Rattle.closure.proofs.ClosureDecided.{Bounded, carried_inside, carried_decided}
use Rattle.closure.proofs.Forms.{form_parts, step_low, one_at_step, one_kind, known_one_hole, holder_inside, form_inside}
use Rattle.closure.proofs.Growing.{numbers, in_numbers, count, count_le, count_less, Grown, grown}
use Rattle.closure.proofs.Known.{Known, known_same, known_both, known_either, known_not, Among, known_among, known_in, known_pair, least_or_none}
use Rattle.closure.proofs.NamesDecided.{Low, joined_by_links, joined_ends}

module _ {L : Type 0} {T : Table L} {m : ℕ} {pairs : List Pair} (ready : WellFormed T m pairs) where
  -- links are a carrying closure of the pairs and of holes
  abbrev Near : ℕ → ℕ → Type 0
  Near p q = In (p, q) pairs ⊎ ((h : ℕ) × (T.form p ≡ Form.hole h) × (T.form q ≡ Form.hole h))

  -- c is the part of p at the step s
  abbrev PlacePart : ℕ → ℕ → ℕ → Type 0
  PlacePart p s c = Among (parts (T.form p)) (λ y. (y.step ≡ s) × (y.at ≡ c))

  linked_carried : {p q : ℕ} → Linked T pairs p q → Closure Near PlacePart p q
  linked_carried Linked.itself = Closure.itself
  linked_carried (Linked.back l) = Closure.back (linked_carried l)
  linked_carried (Linked.chain l k) = Closure.chain (linked_carried l) (linked_carried k)
  linked_carried (Linked.told i) = Closure.held (inl i)
  linked_carried (Linked.one_hole {h = h} d e) = Closure.held (inr (h, d, e))
  linked_carried (Linked.one_step x y l k i j e) = Closure.part (linked_carried l) (x, i, (e, refl)) (y, j, (refl, refl))

  parts_linked : (p q s c d : ℕ) → Linked T pairs p q → PlacePart p s c → PlacePart q s d → Linked T pairs c d
  parts_linked p q s c d l (x, i, (e, at)) (y, j, (f, to)) =
      let same = e ∙ sym f in
      rw (← at, ← to) (Linked.one_step x y l (one_kind (T.form p) (T.form q) x y i j same) i j same)

  carried_linked : {p q : ℕ} → Closure Near PlacePart p q → Linked T pairs p q
  carried_linked Closure.itself = Linked.itself
  carried_linked (Closure.back c) = Linked.back (carried_linked c)
  carried_linked (Closure.chain c d) = Linked.chain (carried_linked c) (carried_linked d)
  carried_linked (Closure.held (inl i)) = Linked.told i
  carried_linked (Closure.held (inr (h, d, e))) = Linked.one_hole d e
  carried_linked (Closure.part c v w) = parts_linked _ _ _ _ _ (carried_linked c) v w

  links_bounded : Bounded Near PlacePart
  links_bounded = record {
    equal = cases_eq;
    held_decided = λ p q. known_either (known_in (known_pair cases_eq cases_eq) (p, q) pairs) (known_one_hole (T.form p) (T.form q));
    part_decided = λ p s c. known_among (parts (T.form p)) (λ y. known_both (cases_eq y.step s) (cases_eq y.at c));
    Inside = λ p. p < T.size;
    all = numbers T.size;
    listed = in_numbers T.size;
    held_inside = λ p q w. elim w [ inl i ↦ let t = ready.told p q i in (t.0, t.1) | inr (h, d, e) ↦ (form_inside ready p (λ n. cc), form_inside ready q (λ n. cc)) ];
    part_inside = λ p s c h w. rw w.2.1 at (ready.ordered.rising p w.0 w.1).1;
    one_part = λ p s c d v w. sym v.2.1 ∙ ap (λ y. y.at) (one_at_step v.0 w.0 (form_parts (T.form p)) v.1 w.1 (v.2.0 ∙ sym w.2.0)) ∙ w.2.1;
    steps = numbers 3;
    stays = λ p s c w. inl (in_numbers 3 s (rw w.2.0 at (step_low w.0 (form_parts (T.form p)) w.1)));
  }

  pub linked_decided : (p q : ℕ) → Known (Linked T pairs p q)
  linked_decided p q = known_same carried_linked linked_carried (carried_decided links_bounded p q)

  -- links stay within the table
  pub linked_within : {p q : ℕ} → Linked T pairs p q → (p ≡ q) ⊎ ((p < T.size) × (q < T.size))
  unfolding links_bounded
  linked_within l = carried_inside links_bounded (linked_carried l)

  pub joined_decided : (u v : Node) → Known (Joined T m pairs u v)
  joined_decided = joined_by_links ready linked_decided

  -- joined nodes are one, or below m at places of the table
  pub joined_inside : {u v : Node} → Joined T m pairs u v → (u ≡ v) ⊎ (Low ready linked_decided u × Low ready linked_decided v)
  joined_inside = joined_ends ready linked_decided

  -- p itself, or what one of the places found is linked with or has as a part
  abbrev Next : ℕ → List ℕ → ℕ → Type 0
  Next p found q = (q ≡ p) ⊎ Among found (λ r. Linked T pairs r q ⊎ Among (parts (T.form r)) (λ y. y.at ≡ q))

  next_decided : (p : ℕ) (found : List ℕ) (q : ℕ) → Known (Next p found q)
  next_decided p found q =
      known_either (cases_eq q p) (known_among found (λ r. known_either (linked_decided r q) (known_among (parts (T.form r)) (λ y. cases_eq y.at q))))

  -- one way after another
  pub along : {p q r : ℕ} → Reaches T pairs p q → Reaches T pairs q r → Reaches T pairs p r
  along Reaches.here w = w
  along (Reaches.to_linked l v) w = Reaches.to_linked l (along v w)
  along (Reaches.to_part x i v) w = Reaches.to_part x i (along v w)

  next_reached : (p : ℕ) (found : List ℕ) → ((q : ℕ) → In q found → Reaches T pairs p q) → (q : ℕ) → Next p found q → Reaches T pairs p q
  next_reached p found good q (inl e) = rw e Reaches.here
  next_reached p found good q (inr (r, i, (inl l))) = along (good r i) (Reaches.to_linked l Reaches.here)
  next_reached p found good q (inr (r, i, (inr (y, j, at)))) = along (good r i) (Reaches.to_part y j (rw at Reaches.here))

  -- the places of the table that p reaches, and p
  reached : (p : ℕ) → Grown (numbers (T.size + suc p)) (Reaches T pairs p) (Next p)
  reached p = grown cases_eq (numbers (T.size + suc p)) (Reaches T pairs p) (Next p) (next_decided p) (next_reached p)

  reached_by : (p q : ℕ) → q < T.size + suc p → Next p (reached p).found q → In q (reached p).found
  reached_by p q h n = (reached p).closed q (in_numbers (T.size + suc p) q h) n

  -- what is reached from what is found is found
  linked_found : (p q r : ℕ) → Linked T pairs q r → In q (reached p).found → In r (reached p).found
  linked_found p q r l i = elim (linked_within l) [ inl e ↦ rw e at i | inr (h, k) ↦ reached_by p r (omega arith) (inr (q, i, (inl l))) ]

  all_found : (p : ℕ) {q r : ℕ} → Reaches T pairs q r → In q (reached p).found → In r (reached p).found
  all_found p Reaches.here i = i
  all_found p (Reaches.to_linked l w) i = all_found p w (linked_found p _ _ l i)
  all_found p (Reaches.to_part {p = q} y j w) i = all_found p w (let up = ready.ordered.rising q y j in reached_by p y.at (omega arith) (inr (q, i, (inr (y, j, refl)))))

  pub reaches_decided : (p q : ℕ) → Known (Reaches T pairs p q)
  reaches_decided p q =
      known_same ((reached p).good q) (λ w. all_found p w (reached_by p p (omega arith) (inl refl))) (known_in cases_eq q (reached p).found)

  -- the lowest place that is no hole, of those linked with p
  abbrev pub Solid : ℕ → ℕ → Type 0
  Solid p = Least (λ r. Linked T pairs p r × (kind_of (T.form r) ≢ 3))

  -- what is linked with p is p, or a place of the table
  linked_low : (p q : ℕ) → Linked T pairs p q → q < T.size + suc p
  linked_low p q l = elim (linked_within l) [ inl e ↦ omega arith | inr w ↦ omega arith ]

  pub solid_or_open : (p : ℕ) → ((r : ℕ) × Solid p r) ⊎ OnlyHoles T pairs p
  solid_or_open p = elim (least_or_none (λ r. Linked T pairs p r × (kind_of (T.form r) ≢ 3)) (λ r. known_both (linked_decided p r) (known_not (cases_eq (kind_of (T.form r)) 3))) (T.size + suc p) (λ r w. linked_low p r w.0)) [
    | inl s ↦ inl s
    | inr none ↦ inr (λ q l. elim (cases_eq (kind_of (T.form q)) 3) [ inl e ↦ e | inr n ↦ absurd (none q (l, n)) ])
  ]

  -- how many places are reached from a place
  pub rank : ℕ → ℕ
  rank p = count (reaches_decided p) (numbers T.size)

  rank_le : {p q : ℕ} → Linked T pairs p q → rank q ≤ rank p
  unfolding rank
  rank_le {p = p} {q = q} l = count_le (reaches_decided q) (reaches_decided p) (λ r w. Reaches.to_linked l w) (numbers T.size)

  pub rank_linked : {p q : ℕ} → Linked T pairs p q → rank p ≡ rank q
  rank_linked l = omega (arith, rank_le l, rank_le (Linked.back l))

  pub rank_part : (acyclic : NoCycle T pairs) (p : ℕ) (y : Part ℕ) → In y (parts (T.form p)) → rank y.at < rank p
  unfolding rank
  rank_part acyclic p y i =
      let listed = in_numbers T.size p (holder_inside ready p y i) in
      let not_back : Reaches T pairs y.at p → ⊥ = λ w. acyclic p (record { holder = p; part = y; there = Reaches.here; down = i; return = w }) in
      count_less (reaches_decided y.at) (reaches_decided p) (λ r w. Reaches.to_part y i w) (numbers T.size) p listed not_back Reaches.here
