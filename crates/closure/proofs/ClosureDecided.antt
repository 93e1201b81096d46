-- Whether two nodes are joined by a carrying closure is decided, if it holds pairs among finitely many nodes. Assumes nothing.
use Rattle.std.proofs.Common.{◌≡◌, ℕ, ◌⊎◌, List, sym, refl, inl, inr}
use Rattle.recipe.specs.Common.{In}
use Rattle.closure.specs.Closures.{Closure}
use Rattle.closure.proofs.Growing.{couples, in_couples, Grown, grown}
use Rattle.closure.proofs.Known.{Known, known_same, known_both, known_either, Among, known_among, known_in, known_pair}

-- what it holds and which parts there are is decided, and all of it is inside a list of nodes that has their parts; at other steps than those of a list a node is its own part
pub record Bounded {N : Type 0} (Held : N → N → Type 0) (PartOf : N → ℕ → N → Type 0) : Type 1 where
  pub equal : (u v : N) → Known (u ≡ v)
  pub held_decided : (u v : N) → Known (Held u v)
  pub part_decided : (u : N) (s : ℕ) (c : N) → Known (PartOf u s c)
  pub Inside : N → Type 0
  pub all : List N
  pub listed : (u : N) → Inside u → In u all
  pub held_inside : (u v : N) → Held u v → Inside u × Inside v
  pub part_inside : (u : N) (s : ℕ) (c : N) → Inside u → PartOf u s c → Inside c
  pub one_part : (u : N) (s : ℕ) (c d : N) → PartOf u s c → PartOf u s d → c ≡ d
  pub steps : List ℕ
  pub stays : (u : N) (s : ℕ) (c : N) → PartOf u s c → In s steps ⊎ (c ≡ u)

module _ {N : Type 0} {Held : N → N → Type 0} {PartOf : N → ℕ → N → Type 0} (b : Bounded Held PartOf) where
  -- what joins two nodes at once, if the pairs found are joined
  abbrev Rule : List (N × N) → N × N → Type 0
  Rule found w =
      Held w.0 w.1 ⊎ (In (w.1, w.0) found ⊎ (Among b.all (λ v. In (w.0, v) found × In (v, w.1) found) ⊎ Among found (λ x. Among b.steps (λ s. PartOf x.0 s w.0 × PartOf x.1 s w.1))))

  equal_pairs : (x y : N × N) → Known (x ≡ y)
  equal_pairs = known_pair b.equal b.equal

  rule_decided : (found : List (N × N)) (w : N × N) → Known (Rule found w)
  rule_decided found w =
      let by_chain = known_among b.all (λ v. known_both (known_in equal_pairs (w.0, v) found) (known_in equal_pairs (v, w.1) found)) in
      let by_part = known_among found (λ x. known_among b.steps (λ s. known_both (b.part_decided x.0 s w.0) (b.part_decided x.1 s w.1))) in
      known_either (b.held_decided w.0 w.1) (known_either (known_in equal_pairs (w.1, w.0) found) (known_either by_chain by_part))

  -- a pair of nodes that are joined
  abbrev Sound : N × N → Type 0
  Sound w = Closure Held PartOf w.0 w.1

  -- it joins no others than the closure
  rule_sound : (found : List (N × N)) → ((w : N × N) → In w found → Sound w) → (w : N × N) → Rule found w → Sound w
  rule_sound found good w (inl h) = Closure.held h
  rule_sound found good w (inr (inl i)) = Closure.back (good _ i)
  rule_sound found good w (inr (inr (inl (v, k, (i, j))))) = Closure.chain (good _ i) (good _ j)
  rule_sound found good w (inr (inr (inr (x, i, (s, k, (c, d)))))) = Closure.part (good x i) c d

  abbrev all_pairs : List (N × N)
  all_pairs = couples (λ u v. (u, v)) b.all b.all

  joined_pairs : Grown all_pairs Sound Rule
  joined_pairs = grown equal_pairs all_pairs Sound Rule rule_decided rule_sound

  -- a pair of nodes inside that the rule gives is among the pairs found
  found_by : (u v : N) → b.Inside u → b.Inside v → Rule joined_pairs.found (u, v) → In (u, v) joined_pairs.found
  found_by u v i j r = joined_pairs.closed (u, v) (in_couples (λ x y. (x, y)) u v b.all b.all (b.listed u i) (b.listed v j)) r

  -- two nodes are one, or inside and found
  abbrev Placed : N → N → Type 0
  Placed u v = (u ≡ v) ⊎ (b.Inside u × b.Inside v × In (u, v) joined_pairs.found)

  -- so each way to join two nodes leads from what is placed to what is placed
  placed_part : (u v c d : N) (s : ℕ) → Placed u v → PartOf u s c → PartOf v s d → Placed c d
  placed_part u v c d s (inl e) i j = inl (b.one_part v s c d (rw e at i) j)
  placed_part u v c d s (inr (hu, hv, f)) i j =
      let hc = b.part_inside u s c hu i in
      let hd = b.part_inside v s d hv j in
      let by_step : In s b.steps → In (c, d) joined_pairs.found = λ k. found_by c d hc hd (inr (inr (inr ((u, v), f, (s, k, (i, j)))))) in
      inr (hc, hd, elim (b.stays u s c i) [ inl k ↦ by_step k | inr e ↦ elim (b.stays v s d j) [ inl k ↦ by_step k | inr o ↦ rw (e, o) f ] ])

  placed_back : (u v : N) → Placed u v → Placed v u
  placed_back u v (inl e) = inl (sym e)
  placed_back u v (inr (hu, hv, f)) = inr (hv, hu, found_by v u hv hu (inr (inl f)))

  placed_chain : (u v w : N) → Placed u v → Placed v w → Placed u w
  placed_chain u v w (inl e) p = rw e p
  placed_chain u v w (inr (hu, hv, f)) (inl e) = inr (hu, rw e at hv, rw e at f)
  placed_chain u v w (inr (hu, hv, f)) (inr (hv', hw, g)) = inr (hu, hw, found_by u w hu hw (inr (inr (inl (v, b.listed v hv, (f, g))))))

  carried_placed : {u v : N} → Closure Held PartOf u v → Placed u v
  carried_placed Closure.itself = inl refl
  carried_placed (Closure.back c) = placed_back _ _ (carried_placed c)
  carried_placed (Closure.chain c d) = placed_chain _ _ _ (carried_placed c) (carried_placed d)
  carried_placed (Closure.held {u = u} {v = v} h) = let (i, j) = b.held_inside u v h in inr (i, j, found_by u v i j (inl h))
  carried_placed (Closure.part c i j) = placed_part _ _ _ _ _ (carried_placed c) i j

  -- what is joined is one node, or two inside
  pub carried_inside : {u v : N} → Closure Held PartOf u v → (u ≡ v) ⊎ (b.Inside u × b.Inside v)
  carried_inside c = elim (carried_placed c) [ inl e ↦ inl e | inr w ↦ inr (w.0, w.1) ]

  pub carried_decided : (u v : N) → Known (Closure Held PartOf u v)
  carried_decided u v =
      known_same
      (λ w. elim w [ inl e ↦ rw e Closure.itself | inr i ↦ joined_pairs.good (u, v) i ])
      (λ c. elim (carried_placed c) [ inl e ↦ inl e | inr w ↦ inr w.2 ])
      (known_either (b.equal u v) (known_in equal_pairs (u, v) joined_pairs.found))
