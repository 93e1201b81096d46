-- Room by steps is room by counts. Assumes nothing.
use Rattle.std.proofs.Common.{◌≡◌, ℕ, zero, suc, pred, ◌+◌, ◌≤◌, max, Bool, true, false, cond, ◌&&◌, List, [], ◌∷◌, length, filter, nat_le, Some, Option, refl, ap, sym, subst, ◌∙◌, true≢false, add_assoc, length-append, zero-add, arith}
use Rattle.std.proofs.lemmas.Option.{none-some, same_Some}
use Rattle.tokens.specs.Tokens.{Token}
use Rattle.tokens.specs.declared.classes.Class.{Class}
use Rattle.notation.specs.Fitting.{Room, Fits, with_words, takes_place, is_name, is_hole, is_leaf, binding, opened, outside, name_words, hole_words, leaf_words, deepest}
use Rattle.notation.specs.Machine.{Awaited, Used, step, recipe_step, head_step, opening_step, binder_step, close_step, recipe_used, recipe_depth, used_after, depth_after, one_name}
use Rattle.notation.proofs.Fronts.{to_come, State, initial, moved, roomy, if_room, front, front_more}
use Rattle.notation.proofs.LeavesRead.{words_one}
use Rattle.notation.proofs.Listed.{with_words_append, with_words_long}
use Rattle.notation.proofs.Spelled.{leads_on}

-- nothing of a binder list is to come
data Flat : List Awaited → Type 0 where
  end : Flat []
  recipe : {K : List Awaited} → Flat K → Flat (Awaited.recipe ∷ K)
  head : {K : List Awaited} → Flat K → Flat (Awaited.head ∷ K)
  close : {K : List Awaited} → Flat K → Flat (Awaited.close ∷ K)

-- so many tokens of a binder list are to come first
data Binding : List Awaited → ℕ → Type 0 where
  none : {K : List Awaited} → Flat K → Binding K 0
  one : {K : List Awaited} → Flat K → Binding (Awaited.binder_close ∷ K) 1
  two : {K : List Awaited} → Flat K → Binding (Awaited.binder_name ∷ Awaited.binder_close ∷ K) 2
  three : {K : List Awaited} → Flat K → Binding (Awaited.binder_open ∷ Awaited.binder_name ∷ Awaited.binder_close ∷ K) 3

-- how many tokens of a binder list are to come after one more token
abbrev pub next : ℕ → Class → ℕ
next zero c = binding c
next (suc n) c = n

-- how many places a token needs
abbrev pub counted : ℕ → Class → ℕ
counted zero c = cond (takes_place c) 1 0
counted (suc n) c = 0

-- how many lists are open after it
abbrev deeper : ℕ → Class → ℕ → ℕ
deeper zero c d = opened c d
deeper (suc n) c d = d

-- a token adds to what is used what it needs by counts
record Adds (n : ℕ) (c : Class) (w : List ℕ) (d e : ℕ) (used more : Used) : Type 0 where
  places : more.places ≡ used.places + counted n c
  names : more.names ≡ with_words used.names (cond (is_name c) (w ∷ []) [])
  holes : more.holes ≡ with_words used.holes (cond (is_hole c) (w ∷ []) [])
  leaves : more.leaves ≡ used.leaves + cond (is_leaf c) 1 0
  depth : e ≡ deeper n c d

-- the end of a list
abbrev is_close : Class → Bool
is_close Class.Close = true
is_close c = false

recipe_open : (K : List Awaited) (c : Class) (N : List Awaited) → recipe_step K c ≡ Some N → is_close c ≡ false
recipe_open K Class.Open N h = refl
recipe_open K Class.Close N h = absurd (none-some N h)
recipe_open K Class.Nil N h = refl
recipe_open K Class.Lambda N h = refl
recipe_open K Class.Name N h = refl
recipe_open K Class.Hole N h = refl
recipe_open K Class.Leaf N h = refl
recipe_open K Class.Unknown N h = refl

head_open : (K : List Awaited) (c : Class) (N : List Awaited) → head_step K c ≡ Some N → is_close c ≡ false
head_open K Class.Open N h = refl
head_open K Class.Close N h = absurd (none-some N h)
head_open K Class.Nil N h = refl
head_open K Class.Lambda N h = refl
head_open K Class.Name N h = refl
head_open K Class.Hole N h = refl
head_open K Class.Leaf N h = refl
head_open K Class.Unknown N h = refl

recipe_adds : (c : Class) (w : List ℕ) (d : ℕ) (used : Used) → is_close c ≡ false → Adds 0 c w d (recipe_depth c d) used (recipe_used c w used)
unfolding with_words
recipe_adds Class.Open w d used h = record { places = omega arith; names = refl; holes = refl; leaves = omega arith; depth = refl }
recipe_adds Class.Close w d used h = absurd (true≢false h)
recipe_adds Class.Nil w d used h = record { places = omega arith; names = refl; holes = refl; leaves = omega arith; depth = refl }
recipe_adds Class.Lambda w d used h = record { places = omega arith; names = refl; holes = refl; leaves = omega arith; depth = refl }
recipe_adds Class.Name w d used h = record { places = omega arith; names = refl; holes = refl; leaves = omega arith; depth = refl }
recipe_adds Class.Hole w d used h = record { places = omega arith; names = refl; holes = refl; leaves = omega arith; depth = refl }
recipe_adds Class.Leaf w d used h = record { places = omega arith; names = refl; holes = refl; leaves = omega arith; depth = refl }
recipe_adds Class.Unknown w d used h = record { places = omega arith; names = refl; holes = refl; leaves = omega arith; depth = refl }

recipe_bound : (K : List Awaited) (c : Class) (N : List Awaited) → Flat K → recipe_step K c ≡ Some N → Binding N (binding c)
recipe_bound K Class.Open N f h = subst (λ M. Binding M 0) (same_Some (Awaited.head ∷ K) N h) (Binding.none (Flat.head f))
recipe_bound K Class.Close N f h = absurd (none-some N h)
recipe_bound K Class.Nil N f h = subst (λ M. Binding M 0) (same_Some K N h) (Binding.none f)
recipe_bound K Class.Lambda N f h = absurd (none-some N h)
recipe_bound K Class.Name N f h = subst (λ M. Binding M 0) (same_Some K N h) (Binding.none f)
recipe_bound K Class.Hole N f h = subst (λ M. Binding M 0) (same_Some K N h) (Binding.none f)
recipe_bound K Class.Leaf N f h = subst (λ M. Binding M 0) (same_Some K N h) (Binding.none f)
recipe_bound K Class.Unknown N f h = absurd (none-some N h)

head_bound : (K : List Awaited) (c : Class) (N : List Awaited) → Flat K → head_step K c ≡ Some N → Binding N (binding c)
head_bound K Class.Open N f h = recipe_bound (Awaited.recipe ∷ Awaited.close ∷ K) Class.Open N (Flat.recipe (Flat.close f)) h
head_bound K Class.Close N f h = recipe_bound (Awaited.recipe ∷ Awaited.close ∷ K) Class.Close N (Flat.recipe (Flat.close f)) h
head_bound K Class.Nil N f h = recipe_bound (Awaited.recipe ∷ Awaited.close ∷ K) Class.Nil N (Flat.recipe (Flat.close f)) h
head_bound K Class.Lambda N f h = subst (λ M. Binding M 3) (same_Some (Awaited.binder_open ∷ Awaited.binder_name ∷ Awaited.binder_close ∷ Awaited.recipe ∷ Awaited.close ∷ K) N h) (Binding.three (Flat.recipe (Flat.close f)))
head_bound K Class.Name N f h = recipe_bound (Awaited.recipe ∷ Awaited.close ∷ K) Class.Name N (Flat.recipe (Flat.close f)) h
head_bound K Class.Hole N f h = recipe_bound (Awaited.recipe ∷ Awaited.close ∷ K) Class.Hole N (Flat.recipe (Flat.close f)) h
head_bound K Class.Leaf N f h = recipe_bound (Awaited.recipe ∷ Awaited.close ∷ K) Class.Leaf N (Flat.recipe (Flat.close f)) h
head_bound K Class.Unknown N f h = recipe_bound (Awaited.recipe ∷ Awaited.close ∷ K) Class.Unknown N (Flat.recipe (Flat.close f)) h

-- one token may stand there
only_close : (K : List Awaited) (c : Class) (N : List Awaited) → close_step K c ≡ Some N → (c ≡ Class.Close) × (K ≡ N)
only_close K Class.Open N h = absurd (none-some N h)
only_close K Class.Close N h = (refl, same_Some K N h)
only_close K Class.Nil N h = absurd (none-some N h)
only_close K Class.Lambda N h = absurd (none-some N h)
only_close K Class.Name N h = absurd (none-some N h)
only_close K Class.Hole N h = absurd (none-some N h)
only_close K Class.Leaf N h = absurd (none-some N h)
only_close K Class.Unknown N h = absurd (none-some N h)

only_binder : (K : List Awaited) (c : Class) (N : List Awaited) → binder_step K c ≡ Some N → (c ≡ Class.Name) × (K ≡ N)
only_binder K Class.Open N h = absurd (none-some N h)
only_binder K Class.Close N h = absurd (none-some N h)
only_binder K Class.Nil N h = absurd (none-some N h)
only_binder K Class.Lambda N h = absurd (none-some N h)
only_binder K Class.Name N h = (refl, same_Some K N h)
only_binder K Class.Hole N h = absurd (none-some N h)
only_binder K Class.Leaf N h = absurd (none-some N h)
only_binder K Class.Unknown N h = absurd (none-some N h)

only_opening : (K : List Awaited) (c : Class) (N : List Awaited) → opening_step K c ≡ Some N → (c ≡ Class.Open) × (K ≡ N)
only_opening K Class.Open N h = (refl, same_Some K N h)
only_opening K Class.Close N h = absurd (none-some N h)
only_opening K Class.Nil N h = absurd (none-some N h)
only_opening K Class.Lambda N h = absurd (none-some N h)
only_opening K Class.Name N h = absurd (none-some N h)
only_opening K Class.Hole N h = absurd (none-some N h)
only_opening K Class.Leaf N h = absurd (none-some N h)
only_opening K Class.Unknown N h = absurd (none-some N h)

-- over one token
record Stepped (n : ℕ) (c : Class) (w : List ℕ) (d e : ℕ) (used more : Used) (N : List Awaited) : Type 0 where
  bound : Binding N (next n c)
  adds : Adds n c w d e used more

stepped : {K : List Awaited} {n : ℕ} (c : Class) (w : List ℕ) (d : ℕ) (used : Used) (N : List Awaited) → Binding K n → step K c ≡ Some N → Stepped n c w d (depth_after K c d) used (used_after K c w used) N
unfolding with_words
stepped c w d used N (Binding.none Flat.end) h =
    record { bound = recipe_bound [] c N Flat.end h; adds = recipe_adds c w d used (recipe_open [] c N h) }
stepped c w d used N (Binding.none (Flat.recipe {K = K} f)) h =
    record { bound = recipe_bound K c N f h; adds = recipe_adds c w d used (recipe_open K c N h) }
stepped c w d used N (Binding.none (Flat.head {K = K} f)) h =
    record { bound = head_bound K c N f h; adds = recipe_adds c w d used (head_open K c N h) }
stepped c w d used N (Binding.none (Flat.close {K = K} f)) h =
    let (e, g) = only_close K c N h in
    subst
    (λ b. Stepped 0 b w d (pred d) used used N)
    (sym e)
    (record {
      bound = subst (λ M. Binding M 0) g (Binding.none f);
      adds = record { places = omega arith; names = refl; holes = refl; leaves = omega arith; depth = refl };
    }
    )
stepped c w d used N (Binding.one {K = K} f) h =
    let (e, g) = only_close K c N h in
    subst
    (λ b. Stepped 1 b w d d used used N)
    (sym e)
    (record {
      bound = subst (λ M. Binding M 0) g (Binding.none f);
      adds = record { places = omega arith; names = refl; holes = refl; leaves = omega arith; depth = refl };
    }
    )
stepped c w d used N (Binding.two {K = K} f) h =
    let (e, g) = only_binder (Awaited.binder_close ∷ K) c N h in
    subst
    (λ b. Stepped 2 b w d d used (one_name w used) N)
    (sym e)
    (record {
      bound = subst (λ M. Binding M 1) g (Binding.one f);
      adds = record { places = omega arith; names = refl; holes = refl; leaves = omega arith; depth = refl };
    }
    )
stepped c w d used N (Binding.three {K = K} f) h =
    let (e, g) = only_opening (Awaited.binder_name ∷ Awaited.binder_close ∷ K) c N h in
    subst
    (λ b. Stepped 3 b w d d used used N)
    (sym e)
    (record {
      bound = subst (λ M. Binding M 2) g (Binding.two f);
      adds = record { places = omega arith; names = refl; holes = refl; leaves = omega arith; depth = refl };
    }
    )

-- the room holds what is used and what the tokens u need, where the first n of them are of a binder list
record Needs (room : Room) (n : ℕ) (x : State) (u : List Token) : Type 0 where
  places : x.used.places + length (filter (λ k. takes_place k.class) (outside n u)) ≤ room.places
  names : length (with_words x.used.names (name_words u)) ≤ room.names
  holes : length (with_words x.used.holes (hole_words u)) ≤ room.holes
  leaves : x.used.leaves + length (leaf_words u) ≤ room.leaves
  nesting : deepest x.depth (outside n u) ≤ 128

both : (a b : Bool) → a ≡ true → b ≡ true → (a && b) ≡ true
both a b h g = rw (h, g)

each : (a b : Bool) → (a && b) ≡ true → (a ≡ true) × (b ≡ true)
each true b h = (refl, h)
each false b h = grind arith

at_most : (a b : ℕ) → a ≤ b → nat_le a b ≡ true
at_most a b h = grind arith

most_at : (a b : ℕ) → nat_le a b ≡ true → a ≤ b
most_at a b h = grind arith

-- the lists that are open first are open at some time
deepest_most : (d : ℕ) (s : List Token) → d ≤ deepest d s
unfolding deepest
deepest_most d [] = omega arith
deepest_most d (k ∷ s) = omega arith

-- what is needed holds already
needs_now : (room : Room) (n : ℕ) (x : State) (u : List Token) → Needs room n x u → roomy room x ≡ true
needs_now room n x u h =
    let a = deepest_most x.depth (outside n u) in
    let b = with_words_long x.used.names (name_words u) in
    let c = with_words_long x.used.holes (hole_words u) in
    let p = h.places in
    let q = h.names in
    let r = h.holes in
    let l = h.leaves in
    let t = h.nesting in
    both (nat_le x.used.places room.places) _ (at_most x.used.places room.places (omega (arith, p)))
    (both (nat_le (length x.used.names) room.names) _ (at_most (length x.used.names) room.names (omega (arith, b, q)))
    (both (nat_le (length x.used.holes) room.holes) _ (at_most (length x.used.holes) room.holes (omega (arith, c, r)))
    (both (nat_le x.used.leaves room.leaves) (nat_le x.depth 128) (at_most x.used.leaves room.leaves (omega (arith, l))) (at_most x.depth 128 (omega (arith, a, t))))))

-- at the end nothing more is needed
needs_none : (room : Room) (n : ℕ) (x : State) → roomy room x ≡ true → Needs room n x []
unfolding outside deepest with_words
needs_none room n x h =
    let (a, h1) = each (nat_le x.used.places room.places) _ h in
    let (b, h2) = each (nat_le (length x.used.names) room.names) _ h1 in
    let (c, h3) = each (nat_le (length x.used.holes) room.holes) _ h2 in
    let (l, d) = each (nat_le x.used.leaves room.leaves) (nat_le x.depth 128) h3 in
    let p = most_at x.used.places room.places a in
    let q = most_at x.used.leaves room.leaves l in
    record {
      places = omega (arith, p);
      names = most_at (length x.used.names) room.names b;
      holes = most_at (length x.used.holes) room.holes c;
      leaves = omega (arith, q);
      nesting = most_at x.depth 128 d;
    }

depth_room : (room : Room) (x : State) → roomy room x ≡ true → x.depth ≤ 128
depth_room room x h =
    let (a, h1) = each (nat_le x.used.places room.places) _ h in
    let (b, h2) = each (nat_le (length x.used.names) room.names) _ h1 in
    let (c, h3) = each (nat_le (length x.used.holes) room.holes) _ h2 in
    let (l, d) = each (nat_le x.used.leaves room.leaves) (nat_le x.depth 128) h3 in
    most_at x.depth 128 d

-- the counts over one token
one_counted : (b : Bool) (k : Token) (s : List Token) → length (cond b (k ∷ s) s) ≡ cond b 1 0 + length s
one_counted true k s = omega arith
one_counted false k s = omega arith

pub places_one : (n : ℕ) (k : Token) (u : List Token) → length (filter (λ j. takes_place j.class) (outside n (k ∷ u))) ≡ counted n k.class + length (filter (λ j. takes_place j.class) (outside (next n k.class) u))
unfolding outside
places_one zero k u = one_counted (takes_place k.class) k (filter (λ j. takes_place j.class) (outside (binding k.class) u))
places_one (suc n) k u = sym (zero-add (length (filter (λ j. takes_place j.class) (outside n u))))

nesting_one : (n : ℕ) (d : ℕ) (k : Token) (u : List Token) → deepest d (outside n (k ∷ u)) ≡ max d (deepest (deeper n k.class d) (outside (next n k.class) u))
unfolding outside deepest
nesting_one zero d k u = refl
nesting_one (suc n) d k u =
    let h = deepest_most d (outside n u) in
    omega (arith, h)

cond_length : (b : Bool) (w : List ℕ) → length (cond b (w ∷ []) []) ≡ cond b 1 0
cond_length true w = refl
cond_length false w = refl

module _ (n : ℕ) (x : State) (k : Token) (N : List Awaited) (u : List Token) (A : Adds n k.class k.bytes x.depth (depth_after x.stack k.class x.depth) x.used (used_after x.stack k.class k.bytes x.used)) where
  same_places : x.used.places + length (filter (λ j. takes_place j.class) (outside n (k ∷ u))) ≡ (moved x k N).used.places + length (filter (λ j. takes_place j.class) (outside (next n k.class) u))
  same_places =
      ap (λ m. x.used.places + m) (places_one n k u)
      ∙ sym (add_assoc x.used.places (counted n k.class) (length (filter (λ j. takes_place j.class) (outside (next n k.class) u))))
      ∙ ap (λ m. m + length (filter (λ j. takes_place j.class) (outside (next n k.class) u))) (sym A.places)

  same_names : with_words x.used.names (name_words (k ∷ u)) ≡ with_words ((moved x k N).used.names) (name_words u)
  same_names =
      ap (λ q. with_words x.used.names q) (words_one is_name k u k.class k.bytes refl refl)
      ∙ with_words_append x.used.names (cond (is_name k.class) (k.bytes ∷ []) []) (name_words u)
      ∙ ap (λ q. with_words q (name_words u)) (sym A.names)

  same_holes : with_words x.used.holes (hole_words (k ∷ u)) ≡ with_words ((moved x k N).used.holes) (hole_words u)
  same_holes =
      ap (λ q. with_words x.used.holes q) (words_one is_hole k u k.class k.bytes refl refl)
      ∙ with_words_append x.used.holes (cond (is_hole k.class) (k.bytes ∷ []) []) (hole_words u)
      ∙ ap (λ q. with_words q (hole_words u)) (sym A.holes)

  same_leaves : x.used.leaves + length (leaf_words (k ∷ u)) ≡ (moved x k N).used.leaves + length (leaf_words u)
  same_leaves =
      ap (λ m. x.used.leaves + m) (ap (λ q. length q) (words_one is_leaf k u k.class k.bytes refl refl) ∙ length-append (cond (is_leaf k.class) (k.bytes ∷ []) []) (leaf_words u) ∙ ap (λ m. m + length (leaf_words u)) (cond_length (is_leaf k.class) k.bytes))
      ∙ sym (add_assoc x.used.leaves (cond (is_leaf k.class) 1 0) (length (leaf_words u)))
      ∙ ap (λ m. m + length (leaf_words u)) (sym A.leaves)

  same_nesting : deepest x.depth (outside n (k ∷ u)) ≡ max x.depth (deepest ((moved x k N).depth) (outside (next n k.class) u))
  same_nesting =
      nesting_one n x.depth k u ∙ ap (λ d. max x.depth (deepest d (outside (next n k.class) u))) (sym A.depth)

  needs_after : (room : Room) → Needs room n x (k ∷ u) → Needs room (next n k.class) (moved x k N) u
  needs_after room h =
      let t = subst (λ m. m ≤ 128) same_nesting h.nesting in
      record {
        places = subst (λ m. m ≤ room.places) same_places h.places;
        names = subst (λ q. length q ≤ room.names) same_names h.names;
        holes = subst (λ q. length q ≤ room.holes) same_holes h.holes;
        leaves = subst (λ m. m ≤ room.leaves) same_leaves h.leaves;
        nesting = omega (arith, t);
      }

  needs_before : (room : Room) → roomy room x ≡ true → Needs room (next n k.class) (moved x k N) u → Needs room n x (k ∷ u)
  needs_before room now h =
      let t = h.nesting in
      let d = depth_room room x now in
      record {
        places = subst (λ m. m ≤ room.places) (sym same_places) h.places;
        names = subst (λ q. length q ≤ room.names) (sym same_names) h.names;
        holes = subst (λ q. length q ≤ room.holes) (sym same_holes) h.holes;
        leaves = subst (λ m. m ≤ room.leaves) (sym same_leaves) h.leaves;
        nesting = subst (λ m. m ≤ 128) (sym same_nesting) (omega (arith, t, d));
      }

-- where nothing cannot stand where it does and there is room by counts, the machine goes on
front_of_needs : (room : Room) (n : ℕ) (x : State) (u : List Token) (K : List Awaited) → Binding x.stack n → to_come x.stack u ≡ Some K → Needs room n x u → (y : State) × (front room x u ≡ Some y) × (y.stack ≡ K)
unfolding to_come front
front_of_needs room n x [] K b h needs = (x, refl, same_Some x.stack K h)
front_of_needs room n x (k ∷ u) K b h needs =
    let (N, e, g) = leads_on (step x.stack k.class) (λ N. to_come N u) K h in
    let s = stepped k.class k.bytes x.depth x.used N b e in
    let later = needs_after n x k N u s.adds room needs in
    let (y, f, i) = front_of_needs room (next n k.class) (moved x k N) u K s.bound g later in
    (y, front_more room 0 x y k N u e (needs_now room (next n k.class) (moved x k N) u later) f, i)

-- a step with room has room
room_on : (b : Bool) (o : Option State) (y : State) → if_room b o ≡ Some y → (b ≡ true) × (o ≡ Some y)
room_on true o y h = (refl, h)
room_on false o y h = absurd (none-some y h)

-- where the machine goes on, there is room by counts
needs_of_front : (room : Room) (n : ℕ) (x y : State) (u : List Token) → Binding x.stack n → roomy room x ≡ true → front room x u ≡ Some y → Needs room n x u
unfolding front
needs_of_front room n x y [] b now h = needs_none room n x now
needs_of_front room n x y (k ∷ u) b now h =
    let (N, e, g) = leads_on (step x.stack k.class) (λ N. if_room (roomy room (moved x k N)) (front room (moved x k N) u)) y h in
    let (fits, f) = room_on (roomy room (moved x k N)) (front room (moved x k N) u) y g in
    let s = stepped k.class k.bytes x.depth x.used N b e in
    needs_before n x k N u s.adds room now (needs_of_front room (next n k.class) (moved x k N) y u s.bound fits f)

-- the same from the start
pub front_of : (room : Room) (u : List Token) (K : List Awaited) → to_come [] u ≡ Some K → Fits room u → (y : State) × (front room initial u ≡ Some y) × (y.stack ≡ K)
front_of room u K h fits =
    front_of_needs
    room
    0
    initial
    u
    K
    (Binding.none Flat.end)
    h
    (record {
      places = subst (λ m. m ≤ room.places) (sym (zero-add (length (filter (λ k. takes_place k.class) (outside 0 u))))) fits.places;
      names = fits.names;
      holes = fits.holes;
      leaves = subst (λ m. m ≤ room.leaves) (sym (zero-add (length (leaf_words u)))) fits.leaves;
      nesting = fits.nesting;
    }
    )

pub fits_of_front : (room : Room) (u : List Token) (y : State) → front room initial u ≡ Some y → Fits room u
fits_of_front room u y h =
    let needs = needs_of_front room 0 initial y u (Binding.none Flat.end) (at_first room) h in
    record {
      places = subst (λ m. m ≤ room.places) (zero-add (length (filter (λ k. takes_place k.class) (outside 0 u)))) needs.places;
      names = needs.names;
      holes = needs.holes;
      leaves = subst (λ m. m ≤ room.leaves) (zero-add (length (leaf_words u))) needs.leaves;
      nesting = needs.nesting;
    }
  where
    at_first : (room : Room) → roomy room initial ≡ true
    at_first room =
        both (nat_le 0 room.places) _ (at_most 0 room.places (omega arith))
        (both (nat_le 0 room.names) _ (at_most 0 room.names (omega arith))
        (both (nat_le 0 room.holes) _ (at_most 0 room.holes (omega arith))
        (both (nat_le 0 room.leaves) true (at_most 0 room.leaves (omega arith)) refl)))
