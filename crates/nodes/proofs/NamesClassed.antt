-- What the classes of a forest over names are: the names that the told pairs join. Assumes nothing.
use Rattle.std.proofs.Common.{◌≡◌, ℕ, ◌<◌, ◌⊎◌, List, Some, refl, sym, ◌∙◌, inl, inr, arith}
use Rattle.recipe.specs.Common.{In}
use Rattle.recipe.specs.Fillings.{Pair}
use Rattle.recipe.specs.Tables.{Form, Table}
use Rattle.closure.specs.Closures.{Closure}
use Rattle.closure.specs.Decision.{WellFormed}
use Rattle.closure.specs.Names.{Joined, NamePart, NamesHeld, Node}
use Rattle.closure.proofs.Forms.{bind_low, form_inside}
use Rattle.forest.specs.Exact as forest
use Rattle.forest.specs.Rows.{IsNode}
use Rattle.nodes.specs.NameClasses.{InTable, NamesJoined, NumbersJoined, RootsJoin, name_parts, node_number}
use Rattle.nodes.proofs.NameNumbers.{name_part_once, number_below, number_of_part, number_tells, part_of_number}

module _ {L : Type 0} (T : Table L) (m : ℕ) (told : List Pair) (formed : WellFormed T m told) where
  -- a hole is in the table
  hole_inside : (p h : ℕ) → T.form p ≡ Form.hole h → p < T.size
  hole_inside p h e = form_inside formed p (λ f. let bad : Form.hole h ≡ Form.nil = sym e ∙ f in cc)

  -- both nodes are in the table
  abbrev Both : Node → Node → Type 0
  Both a b = InTable T m a × InTable T m b

  pub held_inside : {a b : Node} → NamesHeld T m told a b → Both a b
  held_inside (NamesHeld.told {p = p} {q = q} i low less e) = let (one, two, even) = formed.told p q i in (InTable.name one low, InTable.name two less)
  held_inside (NamesHeld.no_second {p = p} q i low none) = let (one, two, even) = formed.told p q i in (InTable.name one low, InTable.nowhere)
  held_inside (NamesHeld.no_first {q = q} p i low none) = let (one, two, even) = formed.told p q i in (InTable.name two low, InTable.nowhere)
  held_inside (NamesHeld.one_hole {p = p} {q = q} {h = h} d e low) = (InTable.name (hole_inside p h d) low, InTable.name (hole_inside q h e) low)
  held_inside (NamesHeld.own_binder {p = p} {a = a} {c = c} e) = let (low, few) = bind_low formed p a c e in (InTable.name low few, InTable.nowhere)
  held_inside (NamesHeld.two_binders {p = p} {q = q} {a = a} {b = b} y z l i j s e f) =
      (InTable.name (formed.ordered.rising p y i).1 (formed.binders p a y i e), InTable.name (formed.ordered.rising q z j).1 (formed.binders q b z j f))

  -- numbers are one, or of nodes in the table that are joined
  abbrev Known : ℕ → ℕ → Type 0
  Known u v = (u ≡ v) ⊎ NumbersJoined T m told u v

  known_back : (u v : ℕ) → Known u v → Known v u
  known_back u v (inl e) = inl (sym e)
  known_back u v (inr k) = inr (record { first = k.second; second = k.first; first_in = k.second_in; second_in = k.first_in; first_is = k.second_is; second_is = k.first_is; joined = Closure.back k.joined })

  known_chain : (u v w : ℕ) → Known u v → Known v w → Known u w
  known_chain u v w (inl e) l = rw e l
  known_chain u v w (inr k) (inl e) = rw (← e) (inr k)
  known_chain u v w (inr k) (inr l) =
      let same = number_tells T m k.second_in l.first_in (k.second_is ∙ sym l.first_is) in
      inr (record { first = k.first; second = l.second; first_in = k.first_in; second_in = l.second_in; first_is = k.first_is; second_is = l.second_is; joined = Closure.chain k.joined (rw same l.joined) })

  known_part : (u v s c d : ℕ) → Known u v → name_parts T m u s ≡ Some c → name_parts T m v s ≡ Some d → Known c d
  known_part u v s c d (inl e) p q = let f = rw e at p in inl cc
  known_part u v s c d (inr k) p q =
      let (a, one, is) = part_of_number T m formed.ordered s c k.first_in (rw k.first_is p) in
      let (b, two, so) = part_of_number T m formed.ordered s d k.second_in (rw k.second_is q) in
      inr (record {
        first = a;
        second = b;
        first_in = (number_of_part T m formed.ordered k.first_in one).inside;
        second_in = (number_of_part T m formed.ordered k.second_in two).inside;
        first_is = is;
        second_is = so;
        joined = Closure.part k.joined one two;
      })

  -- what pairs of numbers of joined nodes join is joined
  joined_known : (pairs : List (ℕ × ℕ)) → ((u v : ℕ) → In (u, v) pairs → NumbersJoined T m told u v) → {u v : ℕ} → forest.Joined (name_parts T m) pairs u v → Known u v
  joined_known pairs held Closure.itself = inl refl
  joined_known pairs held (Closure.back {u = u} {v = v} j) = known_back u v (joined_known pairs held j)
  joined_known pairs held (Closure.chain {u = u} {v = v} {w = w} j k) = known_chain u v w (joined_known pairs held j) (joined_known pairs held k)
  joined_known pairs held (Closure.held {u = u} {v = v} i) = inr (held u v i)
  joined_known pairs held (Closure.part {u = u} {v = v} {c = c} {d = d} {s = s} j p q) = known_part u v s c d (joined_known pairs held j) p.1 q.1

  nodes_known : (a b : Node) → InTable T m a → InTable T m b → Known (node_number m a) (node_number m b) → Joined T m told a b
  nodes_known a b i j (inl e) = rw (number_tells T m i j e) Closure.itself
  nodes_known a b i j (inr k) = rw (← number_tells T m k.first_in i k.first_is, ← number_tells T m k.second_in j k.second_is) k.joined

  pub numbers_joined : (pairs : List (ℕ × ℕ)) → ((u v : ℕ) → In (u, v) pairs → NumbersJoined T m told u v) → (a b : Node) → InTable T m a → InTable T m b → forest.Joined (name_parts T m) pairs (node_number m a) (node_number m b) → Joined T m told a b
  numbers_joined pairs held a b i j k = nodes_known a b i j (joined_known pairs held k)

  -- nodes are one, or in the table and their numbers are joined
  abbrev Numbered : List (ℕ × ℕ) → Node → Node → Type 0
  Numbered pairs a b = (a ≡ b) ⊎ (InTable T m a × InTable T m b × forest.Joined (name_parts T m) pairs (node_number m a) (node_number m b))

  module _ (pairs : List (ℕ × ℕ)) where
    numbered_back : (a b : Node) → Numbered pairs a b → Numbered pairs b a
    numbered_back a b (inl e) = inl (sym e)
    numbered_back a b (inr (i, j, k)) = inr (j, i, Closure.back k)

    numbered_chain : (a b c : Node) → Numbered pairs a b → Numbered pairs b c → Numbered pairs a c
    numbered_chain a b c (inl e) l = rw e l
    numbered_chain a b c (inr k) (inl e) = rw (← e) (inr k)
    numbered_chain a b c (inr (i, j, k)) (inr (x, y, l)) = inr (i, y, Closure.chain k l)

    -- parts at one side, or both nowhere
    parts_joined : (u v s : ℕ) (c d : Node) → (s < 3) ⊎ (c ≡ Node.nowhere) → (s < 3) ⊎ (d ≡ Node.nowhere) → forest.Joined (name_parts T m) pairs u v → name_parts T m u s ≡ Some (node_number m c) → name_parts T m v s ≡ Some (node_number m d) → forest.Joined (name_parts T m) pairs (node_number m c) (node_number m d)
    parts_joined u v s c d (inl low) side k p q = Closure.part {s = s} k (low, p) (low, q)
    parts_joined u v s c d (inr e) (inl low) k p q = Closure.part {s = s} k (low, p) (low, q)
    parts_joined u v s c d (inr e) (inr f) k p q = rw (e, f) Closure.itself

    numbered_part : (a b c d : Node) (s : ℕ) → Numbered pairs a b → NamePart T a s c → NamePart T b s d → Numbered pairs c d
    numbered_part a b c d s (inl e) p q = inl (name_part_once T m p (rw e q))
    numbered_part a b c d s (inr (i, j, k)) p q =
        let one = number_of_part T m formed.ordered i p in
        let two = number_of_part T m formed.ordered j q in
        inr (one.inside, two.inside, parts_joined (node_number m a) (node_number m b) s c d one.side two.side k one.part two.part)

    module _ (holds : (a b : Node) → NamesHeld T m told a b → forest.Joined (name_parts T m) pairs (node_number m a) (node_number m b)) where
      joined_numbered : {a b : Node} → Joined T m told a b → Numbered pairs a b
      joined_numbered Closure.itself = inl refl
      joined_numbered (Closure.back {u = a} {v = b} j) = numbered_back a b (joined_numbered j)
      joined_numbered (Closure.chain {u = a} {v = b} {w = c} j k) = numbered_chain a b c (joined_numbered j) (joined_numbered k)
      joined_numbered (Closure.held {u = a} {v = b} h) = let (i, j) = held_inside h in inr (i, j, holds a b h)
      joined_numbered (Closure.part {u = a} {v = b} {c = c} {d = d} {s = s} j p q) = numbered_part a b c d s (joined_numbered j) p q

      -- joined nodes have joined numbers
      pub nodes_joined : (a b : Node) → Joined T m told a b → forest.Joined (name_parts T m) pairs (node_number m a) (node_number m b)
      nodes_joined a b j = elim (joined_numbered j) [ inl e ↦ rw e Closure.itself | inr k ↦ k.2 ]

  -- two nodes of the table have one root exactly if they are joined
  pub roots_join : (rows : List ℕ) → NamesJoined T m told rows → RootsJoin T m told rows
  roots_join rows joined a b i j =
      let long = joined.long in
      let low = number_below T m i in
      let less = number_below T m j in
      let first : IsNode rows (node_number m a) = omega arith in
      let second : IsNode rows (node_number m b) = omega arith in
      let classes = joined.exact.classes (node_number m a) (node_number m b) first second in
      (λ e. numbers_joined joined.pairs joined.held a b i j (classes.0 e), λ k. classes.1 (nodes_joined joined.pairs joined.done a b k))
