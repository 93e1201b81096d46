-- Whether two names at places are joined is decided, if it is of two places whether they are linked. Assumes nothing.
use Rattle.std.proofs.Common.{◌≡◌, ℕ, ◌<◌, ◌≢◌, ◌⊎◌, List, ◌∷◌, Some, refl, ap, inl, inr}
use Rattle.std.proofs.lemmas.Bool.{cases_eq}
use Rattle.recipe.specs.Common.{In}
use Rattle.recipe.specs.Fillings.{Pair}
use Rattle.recipe.specs.Links.{Linked}
use Rattle.recipe.specs.Scopes.{NameEqual}
use Rattle.recipe.specs.Tables.{Form, Table, parts, scope}
use Rattle.closure.specs.Decision.{WellFormed}
use Rattle.closure.specs.Names.{Node, NamesHeld, NamePart, Joined}
use Rattle.closure.proofs.ClosureDecided.{Bounded, carried_inside, carried_decided}
use Rattle.closure.proofs.EqualNames.{equal_decided, equal_name_or_none, equal_name_or_none_back}
use Rattle.closure.proofs.Forms.{form_parts, step_low, one_at_step, known_one_hole, known_bind, holder_inside, form_inside, bind_low}
use Rattle.closure.proofs.Growing.{numbers, in_numbers, couples, in_couples}
use Rattle.closure.proofs.Known.{Known, known_same, known_both, known_either, known_not, known_option, Among, known_among, known_in, known_pair, known_below}

nodes_decided : (u v : Node) → Known (u ≡ v)
nodes_decided Node.nowhere Node.nowhere = inl refl
nodes_decided (Node.name p x) (Node.name q y) = known_same (λ w. let d = w.0 in let e = w.1 in cc) (λ e. (cc, cc)) (known_both (cases_eq p q) (cases_eq x y))
nodes_decided u v = inr (λ e. cc)

-- no number has a property that one has or none has
none_decided : {P : ℕ → Type 0} → ((x : ℕ) × P x) ⊎ ((x : ℕ) → P x → ⊥) → Known ((x : ℕ) → P x → ⊥)
none_decided (inl w) = inr (λ n. n w.0 w.1)
none_decided (inr n) = inl n

module _ {L : Type 0} {T : Table L} {m : ℕ} {pairs : List Pair} (ready : WellFormed T m pairs) (linked : (p q : ℕ) → Known (Linked T pairs p q)) where
  -- the names of two binders at one step of linked places
  abbrev Binders : ℕ → ℕ → ℕ → ℕ → Type 0
  Binders c a d b =
      Among (numbers T.size) (λ p. Among (numbers T.size) (λ q. Among (parts (T.form p)) (λ y. Among (parts (T.form q)) (λ z.
      Linked T pairs p q × ((y.step ≡ z.step) × (((y.under ≡ Some a) × (z.under ≡ Some b)) × ((y.at ≡ c) × (z.at ≡ d))))))))

  binders_decided : (c a d b : ℕ) → Known (Binders c a d b)
  binders_decided c a d b =
      known_among (numbers T.size) (λ p. known_among (numbers T.size) (λ q. known_among (parts (T.form p)) (λ y. known_among (parts (T.form q)) (λ z.
      known_both (linked p q) (known_both (cases_eq y.step z.step) (known_both (known_both (known_option y.under (Some a)) (known_option z.under (Some b))) (known_both (cases_eq y.at c) (cases_eq z.at d))))))))

  -- a name of one place of a pair to which no name of the other is equal
  abbrev NoSecond : ℕ → ℕ → Type 0
  NoSecond p x = Among pairs (λ w. (w.0 ≡ p) × ((x < m) × ((y : ℕ) → NameEqual (scope T w.0) x (scope T w.1) y → ⊥)))

  abbrev NoFirst : ℕ → ℕ → Type 0
  NoFirst q y = Among pairs (λ w. (w.1 ≡ q) × ((y < m) × ((x : ℕ) → NameEqual (scope T w.0) x (scope T w.1) y → ⊥)))

  -- what holds two nodes, by the nodes
  abbrev HeldBy : Node → Node → Type 0
  HeldBy Node.nowhere v = ⊥
  HeldBy (Node.name p x) Node.nowhere = (NoSecond p x ⊎ NoFirst p x) ⊎ ((c : ℕ) × (T.form p ≡ Form.bind x c))
  HeldBy (Node.name p x) (Node.name q y) =
      ((In (p, q) pairs × (((x < m) × (y < m)) × NameEqual (scope T p) x (scope T q) y)) ⊎ (((x ≡ y) × (x < m)) × ((h : ℕ) × (T.form p ≡ Form.hole h) × (T.form q ≡ Form.hole h)))) ⊎ Binders p x q y

  held_by_decided : (u v : Node) → Known (HeldBy u v)
  held_by_decided Node.nowhere v = inr (λ h. h)
  held_by_decided (Node.name p x) Node.nowhere =
      known_either
      (known_either
      (known_among pairs (λ w. known_both (cases_eq w.0 p) (known_both (known_below x m) (none_decided (equal_name_or_none (scope T w.0) (scope T w.1) x)))))
      (known_among pairs (λ w. known_both (cases_eq w.1 p) (known_both (known_below x m) (none_decided (equal_name_or_none_back (scope T w.0) (scope T w.1) x))))))
      (known_bind x (T.form p))
  held_by_decided (Node.name p x) (Node.name q y) =
      known_either
      (known_either
      (known_both (known_in (known_pair cases_eq cases_eq) (p, q) pairs) (known_both (known_both (known_below x m) (known_below y m)) (equal_decided (scope T p) (scope T q) x y)))
      (known_both (known_both (cases_eq x y) (known_below x m)) (known_one_hole (T.form p) (T.form q))))
      (binders_decided p x q y)

  -- so it is held by the pairs, the holes and the binders
  held_by : {u v : Node} → NamesHeld T m pairs u v → HeldBy u v
  held_by (NamesHeld.told i h k e) = inl (inl (i, ((h, k), e)))
  held_by (NamesHeld.no_second {p = p} q i h n) = inl (inl ((p, q), i, (refl, (h, n))))
  held_by (NamesHeld.no_first {q = q} p i h n) = inl (inr ((p, q), i, (refl, (h, n))))
  held_by (NamesHeld.one_hole {h = h} d e k) = inl (inr ((refl, k), (h, d, e)))
  held_by (NamesHeld.own_binder {c = c} e) = inr (c, e)
  held_by (NamesHeld.two_binders {p = p} {q = q} y z l i j e f g) =
      inr (p, in_numbers T.size p (holder_inside ready p y i), (q, in_numbers T.size q (holder_inside ready q z j), (y, i, (z, j, (l, (e, ((f, g), (refl, refl))))))))

  by_held : (u v : Node) → HeldBy u v → NamesHeld T m pairs u v
  by_held Node.nowhere v h = absurd h
  by_held (Node.name p x) Node.nowhere (inl (inl (w, i, (e, (h, n))))) = rw (← e) (NamesHeld.no_second w.1 i h n)
  by_held (Node.name p x) Node.nowhere (inl (inr (w, i, (e, (h, n))))) = rw (← e) (NamesHeld.no_first w.0 i h n)
  by_held (Node.name p x) Node.nowhere (inr (c, e)) = NamesHeld.own_binder e
  by_held (Node.name p x) (Node.name q y) (inl (inl (i, ((h, k), e)))) = NamesHeld.told i h k e
  by_held (Node.name p x) (Node.name q y) (inl (inr ((e, k), (h, d, f)))) = rw (← e) (NamesHeld.one_hole d f k)
  by_held (Node.name c a) (Node.name d b) (inr (p, hp, (q, hq, (y, i, (z, j, (l, (e, ((f, g), (at, to))))))))) = rw (← at, ← to) (NamesHeld.two_binders y z l i j e f g)

  -- the part of a node at a step, by the node
  abbrev SubNode : Node → ℕ → Node → Type 0
  SubNode Node.nowhere s c = c ≡ Node.nowhere
  SubNode (Node.name p x) s c = Among (parts (T.form p)) (λ y. (y.under ≢ Some x) × ((y.step ≡ s) × (c ≡ Node.name y.at x)))

  part_sub : {u c : Node} {s : ℕ} → NamePart T u s c → SubNode u s c
  part_sub NamePart.nowhere = refl
  part_sub (NamePart.name y i n) = (y, i, (n, (refl, refl)))

  sub_part : (u : Node) (s : ℕ) (c : Node) → SubNode u s c → NamePart T u s c
  sub_part Node.nowhere s c e = rw e NamePart.nowhere
  sub_part (Node.name p x) s c (y, i, (n, (e, at))) = rw (at, ← e) (NamePart.name y i n)

  sub_decided : (u : Node) (s : ℕ) (c : Node) → Known (SubNode u s c)
  sub_decided Node.nowhere s c = nodes_decided c Node.nowhere
  sub_decided (Node.name p x) s c = known_among (parts (T.form p)) (λ y. known_both (known_not (known_option y.under (Some x))) (known_both (cases_eq y.step s) (nodes_decided c (Node.name y.at x))))

  -- nowhere, and the names below m at places of the table
  abbrev pub Low : Node → Type 0
  Low Node.nowhere = Unit {0}
  Low (Node.name p x) = (p < T.size) × (x < m)

  low_nodes : List Node
  low_nodes = Node.nowhere ∷ couples Node.name (numbers T.size) (numbers m)

  low_listed : (u : Node) → Low u → In u low_nodes
  unfolding low_nodes
  low_listed Node.nowhere h = inl refl
  low_listed (Node.name p x) (h, k) = inr (in_couples Node.name p x (numbers T.size) (numbers m) (in_numbers T.size p h) (in_numbers m x k))

  held_low : {u v : Node} → NamesHeld T m pairs u v → Low u × Low v
  held_low (NamesHeld.told i h k e) = let t = ready.told _ _ i in ((t.0, h), (t.1, k))
  held_low (NamesHeld.no_second q i h n) = let t = ready.told _ _ i in ((t.0, h), tt)
  held_low (NamesHeld.no_first p i h n) = let t = ready.told _ _ i in ((t.1, h), tt)
  held_low (NamesHeld.one_hole d e k) = ((form_inside ready _ (λ n. cc), k), (form_inside ready _ (λ n. cc), k))
  held_low (NamesHeld.own_binder e) = (bind_low ready _ _ _ e, tt)
  held_low (NamesHeld.two_binders y z l i j e f g) = (((ready.ordered.rising _ y i).1, ready.binders _ _ y i f), ((ready.ordered.rising _ z j).1, ready.binders _ _ z j g))

  part_low : {u c : Node} {s : ℕ} → NamePart T u s c → Low u → Low c
  part_low NamePart.nowhere h = tt
  part_low (NamePart.name y i n) h = ((ready.ordered.rising _ y i).1, h.1)

  -- a node has one part at a step
  part_once : {u c d : Node} {s t : ℕ} → NamePart T u s c → NamePart T u t d → s ≡ t → c ≡ d
  part_once NamePart.nowhere NamePart.nowhere e = refl
  part_once (NamePart.name {p = p} {x = x} y i n) (NamePart.name z j k) e = ap (λ w. Node.name w.at x) (one_at_step y z (form_parts (T.form p)) i j e)

  part_stays : {u c : Node} {s : ℕ} → NamePart T u s c → In s (numbers 3) ⊎ (c ≡ u)
  part_stays NamePart.nowhere = inr refl
  part_stays (NamePart.name {p = p} y i n) = inl (in_numbers 3 y.step (step_low y (form_parts (T.form p)) i))

  names_bounded : Bounded (NamesHeld T m pairs) (NamePart T)
  names_bounded = record {
    equal = nodes_decided;
    held_decided = λ u v. known_same (by_held u v) held_by (held_by_decided u v);
    part_decided = λ u s c. known_same (sub_part u s c) part_sub (sub_decided u s c);
    Inside = Low;
    all = low_nodes;
    listed = low_listed;
    held_inside = λ u v h. held_low h;
    part_inside = λ u s c h w. part_low w h;
    one_part = λ u s c d v w. part_once v w refl;
    steps = numbers 3;
    stays = λ u s c w. part_stays w;
  }

  pub joined_by_links : (u v : Node) → Known (Joined T m pairs u v)
  joined_by_links u v = carried_decided names_bounded u v

  -- joined nodes are one, or such
  pub joined_ends : {u v : Node} → Joined T m pairs u v → (u ≡ v) ⊎ (Low u × Low v)
  unfolding names_bounded
  joined_ends j = carried_inside names_bounded j
