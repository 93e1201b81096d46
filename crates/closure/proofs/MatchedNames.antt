-- Which names of two linked places belong together, by the closures alone. Assumes nothing.
use Rattle.std.proofs.Common.{◌≡◌, ℕ, ◌<◌, ◌≢◌, ◌⊎◌, List, Some, sym, refl, ◌∙◌, subst, inl, inr, arith}
use Rattle.recipe.specs.Common.{In}
use Rattle.recipe.specs.Fillings.{Pair}
use Rattle.recipe.specs.Links.{Linked}
use Rattle.recipe.specs.Recipes.{Part}
use Rattle.recipe.specs.Scopes.{NameEqual}
use Rattle.recipe.specs.Tables.{Table, parts, scope}
use Rattle.closure.specs.Closures.{Closure}
use Rattle.closure.specs.Decision.{WellFormed}
use Rattle.closure.specs.Names.{Node, NamesHeld, NamePart, Joined}
use Rattle.closure.proofs.EqualNames.{name_once, name_once_back, equal_name_or_none, equal_name_or_none_back, equal_low, equal_low_back}
use Rattle.closure.proofs.Forms.{bind_around, form_parts, both_under}
use Rattle.closure.proofs.Known.{known_option}
use Rattle.closure.proofs.Relations.{Relation}
use Rattle.closure.proofs.LinksDecided.{joined_inside}

-- the relation of names at two parts, from one above: the names are the binders of the parts, or are neither and were related
abbrev pub in_parts : Part ℕ → Part ℕ → Relation → Relation
in_parts y z R x w = ((y.under ≡ Some x) × (z.under ≡ Some w)) ⊎ ((y.under ≢ Some x) × (z.under ≢ Some w) × R x w)

-- the same, turned round
turned_parts : (y z : Part ℕ) (R : Relation) (x w : ℕ) → in_parts y z R x w → in_parts z y (λ b a. R a b) w x
turned_parts y z R x w h = grind arith

module _ {L : Type 0} {T : Table L} {m : ℕ} {pairs : List Pair} (ready : WellFormed T m pairs) where
  -- what is joined with another node is a name below m, or nowhere
  pub joined_low : {p x : ℕ} {v : Node} → Joined T m pairs (Node.name p x) v → (v ≡ Node.name p x) ⊎ (x < m)
  joined_low j = elim (joined_inside ready j) [ inl e ↦ inl (sym e) | inr o ↦ inr o.0.1 ]

  -- a name that is nowhere is nowhere in the parts, and two that are joined are joined in the parts
  nowhere_part : {p x : ℕ} (y : Part ℕ) → In y (parts (T.form p)) → y.under ≢ Some x → Joined T m pairs (Node.name p x) Node.nowhere → Joined T m pairs (Node.name y.at x) Node.nowhere
  nowhere_part y i n j = Closure.part j (NamePart.name y i n) NamePart.nowhere

  joined_part : {p q u v : ℕ} (y z : Part ℕ) → In y (parts (T.form p)) → In z (parts (T.form q)) → y.step ≡ z.step → y.under ≢ Some u → z.under ≢ Some v → Joined T m pairs (Node.name p u) (Node.name q v) → Joined T m pairs (Node.name y.at u) (Node.name z.at v)
  joined_part {q = q} {v = v} y z i j e n o w =
      Closure.part w (NamePart.name y i n) (subst (λ s. NamePart T (Node.name q v) s (Node.name z.at v)) (sym e) (NamePart.name z j o))

  -- the name of a binder is nowhere above it
  binder_nowhere : {p a : ℕ} (y : Part ℕ) → In y (parts (T.form p)) → y.under ≡ Some a → Joined T m pairs (Node.name p a) Node.nowhere
  binder_nowhere {p = p} {a = a} y i e = Closure.held (NamesHeld.own_binder (bind_around (T.form p) y a i e))

  -- a relation of the names of two places, one to one, inside the closure, that misses only names that are nowhere
  pub record Matched (p q : ℕ) : Type 1 where
    pub partner : Relation
    pub low : (x y : ℕ) → partner x y → (x < m) × (y < m)
    pub joined : (x y : ℕ) → partner x y → Joined T m pairs (Node.name p x) (Node.name q y)
    pub once : (x y z : ℕ) → partner x y → partner x z → y ≡ z
    pub once_back : (x y z : ℕ) → partner x z → partner y z → x ≡ y
    pub first : (x : ℕ) → x < m → Joined T m pairs (Node.name p x) Node.nowhere ⊎ ((y : ℕ) × partner x y)
    pub second : (y : ℕ) → y < m → Joined T m pairs (Node.name q y) Node.nowhere ⊎ ((x : ℕ) × partner x y)

  -- each name and itself
  with_itself : {p q : ℕ} → ((x : ℕ) → x < m → Joined T m pairs (Node.name p x) (Node.name q x)) → Matched p q
  with_itself {p = p} {q = q} each = record {
    partner = λ x y. (x < m) × (x ≡ y);
    low = λ x y w. (w.0, omega (arith, w.1));
    joined = λ x y w. subst (λ z. Joined T m pairs (Node.name p x) (Node.name q z)) w.1 (each x w.0);
    once = λ x y z v w. sym v.1 ∙ w.1;
    once_back = λ x y z v w. v.1 ∙ sym w.1;
    first = λ x h. inr (x, (h, refl));
    second = λ x h. inr (x, (h, refl));
  }

  -- the relation turned round
  abbrev turned : {p q : ℕ} → Matched p q → Matched q p
  turned M = record {
    partner = λ y x. M.partner x y;
    low = λ y x w. ((M.low x y w).1, (M.low x y w).0);
    joined = λ y x w. Closure.back (M.joined x y w);
    once = λ z x y. M.once_back x y z;
    once_back = λ x y z. M.once z x y;
    first = M.second;
    second = M.first;
  }

  -- a partner of a partner
  chained : {p q r : ℕ} → Matched p q → Matched q r → Matched p r
  chained M N = record {
    partner = λ x z. (y : ℕ) × M.partner x y × N.partner y z;
    low = λ x z w. ((M.low x w.0 w.1).0, (N.low w.0 z w.2).1);
    joined = λ x z w. Closure.chain (M.joined x w.0 w.1) (N.joined w.0 z w.2);
    once = λ x y z v w. N.once w.0 y z (subst (λ u. N.partner u y) (M.once x v.0 w.0 v.1 w.1) v.2) w.2;
    once_back = λ x y z v w. M.once_back x y w.0 (subst (λ u. M.partner x u) (N.once_back v.0 w.0 z v.2 w.2) v.1) w.1;
    first = λ x h. elim (M.first x h) [
      | inl gone ↦ inl gone
      | inr one ↦ elim (N.first one.0 (M.low x one.0 one.1).1) [
        | inl gone ↦ inl (Closure.chain (M.joined x one.0 one.1) gone)
        | inr two ↦ inr (two.0, (one.0, one.1, two.1))
      ]
    ];
    second = λ z h. elim (N.second z h) [
      | inl gone ↦ inl gone
      | inr one ↦ elim (M.second one.0 (N.low one.0 z one.1).0) [
        | inl gone ↦ inl (Closure.chain (Closure.back (N.joined one.0 z one.1)) gone)
        | inr two ↦ inr (two.0, (one.0, two.1, one.1))
      ]
    ];
  }

  -- the relation at the parts of two places, at one step
  module _ {p q : ℕ} (y z : Part ℕ) (i : In y (parts (T.form p))) (j : In z (parts (T.form q))) (e : y.step ≡ z.step) (l : Linked T pairs p q) (M : Matched p q) where
    parts_low : (x w : ℕ) → in_parts y z M.partner x w → (x < m) × (w < m)
    parts_low x w (inl both) = (ready.binders p x y i both.0, ready.binders q w z j both.1)
    parts_low x w (inr neither) = M.low x w neither.2

    parts_joined : (x w : ℕ) → in_parts y z M.partner x w → Joined T m pairs (Node.name y.at x) (Node.name z.at w)
    parts_joined x w (inl both) = Closure.held (NamesHeld.two_binders y z l i j e both.0 both.1)
    parts_joined x w (inr neither) = joined_part y z i j e neither.0 neither.1 (M.joined x w neither.2)

    parts_once : (x v w : ℕ) → in_parts y z M.partner x v → in_parts y z M.partner x w → v ≡ w
    parts_once x v w h k = grind (arith, M.once)

    -- a name whose partner above is the other part's binder is nowhere
    parts_first : (x : ℕ) → x < m → Joined T m pairs (Node.name y.at x) Node.nowhere ⊎ ((w : ℕ) × in_parts y z M.partner x w)
    parts_first x h =
        elim (known_option y.under (Some x)) [
          | inl own ↦ let (b, other) = both_under y z x (form_parts (T.form p)) (form_parts (T.form q)) i j e own in inr (b, inl (own, other))
          | inr n ↦ elim (M.first x h) [
            | inl gone ↦ inl (nowhere_part y i n gone)
            | inr one ↦ elim (known_option z.under (Some one.0)) [
              | inl own ↦ inl (nowhere_part y i n (Closure.chain (M.joined x one.0 one.1) (binder_nowhere z j own)))
              | inr k ↦ inr (one.0, inr (n, k, one.1))
            ]
          ]
        ]

  abbrev matched_parts : {p q : ℕ} (y z : Part ℕ) (i : In y (parts (T.form p))) (j : In z (parts (T.form q))) (e : y.step ≡ z.step) (l : Linked T pairs p q) (M : Matched p q) → Matched y.at z.at
  matched_parts y z i j e l M = record {
    partner = in_parts y z M.partner;
    low = parts_low y z i j e l M;
    joined = parts_joined y z i j e l M;
    once = parts_once y z i j e l M;
    once_back = λ x v w a b. parts_once z y j i (sym e) (Linked.back l) (turned M) w x v (turned_parts y z M.partner x w a) (turned_parts y z M.partner v w b);
    first = parts_first y z i j e l M;
    second = λ w h. elim (parts_first z y j i (sym e) (Linked.back l) (turned M) w h) [
      | inl gone ↦ inl gone
      | inr one ↦ inr (one.0, turned_parts z y (λ v x. M.partner x v) w one.0 one.1)
    ];
  }

  -- between two linked places there is one
  pub matched : {p q : ℕ} → Linked T pairs p q → Matched p q
  matched Linked.itself = with_itself (λ x h. Closure.itself)
  matched (Linked.back l) = turned (matched l)
  matched (Linked.chain l k) = chained (matched l) (matched k)
  matched (Linked.told {p = p} {q = q} i) = record {
    partner = λ x y. (x < m) × (y < m) × NameEqual (scope T p) x (scope T q) y;
    low = λ x y w. (w.0, w.1);
    joined = λ x y w. Closure.held (NamesHeld.told i w.0 w.1 w.2);
    once = λ x y z v w. name_once (scope T p) (scope T q) x y z v.2 w.2;
    once_back = λ x y z v w. name_once_back (scope T p) (scope T q) x y z v.2 w.2;
    first = λ x h. elim (equal_name_or_none (scope T p) (scope T q) x) [
      | inl one ↦ inr (one.0, (h, equal_low ready (scope T p) q x one.0 h one.1, one.1))
      | inr none ↦ inl (Closure.held (NamesHeld.no_second q i h none))
    ];
    second = λ y h. elim (equal_name_or_none_back (scope T p) (scope T q) y) [
      | inl one ↦ inr (one.0, (equal_low_back ready p one.0 y (scope T q) h one.1, h, one.1))
      | inr none ↦ inl (Closure.held (NamesHeld.no_first p i h none))
    ];
  }
  matched (Linked.one_hole d e) = with_itself (λ x h. Closure.held (NamesHeld.one_hole d e h))
  matched (Linked.one_step y z l k i j e) = matched_parts y z i j e l (matched l)

  -- a name of a place that is neither nowhere nor joined with another name of the place
  pub record Clean (p x : ℕ) : Type 0 where
    pub low : x < m
    pub somewhere : Joined T m pairs (Node.name p x) Node.nowhere → ⊥
    pub alone : (y : ℕ) → Joined T m pairs (Node.name p x) (Node.name p y) → y ≡ x

  -- what a clean name is joined with is its partner
  clean_matched : {p q : ℕ} (x y : ℕ) (M : Matched p q) → Clean p x → y < m → Joined T m pairs (Node.name p x) (Node.name q y) → M.partner x y
  clean_matched x y M c h j =
      elim (M.second y h) [
        | inl gone ↦ absurd (c.somewhere (Closure.chain j gone))
        | inr one ↦ subst (λ u. M.partner u y) (c.alone one.0 (Closure.chain j (Closure.back (M.joined one.0 y one.1)))) one.1
      ]

  -- what is joined with a clean name, at a linked place, is clean
  pub clean_along : {p q x y : ℕ} → Linked T pairs p q → Clean p x → Joined T m pairs (Node.name p x) (Node.name q y) → Clean q y
  clean_along {p = p} {q = q} {x = x} {y = y} l c j =
      let M = matched l in
      let h : y < m = elim (joined_inside ready j) [ inl e ↦ let one : x ≡ y = cc in omega (arith, c.low) | inr low ↦ low.1.1 ] in
      record {
        low = h;
        somewhere = λ gone. c.somewhere (Closure.chain j gone);
        alone = λ z w. elim (joined_inside ready w) [
          | inl e ↦ cc
          | inr low ↦ M.once x z y (clean_matched x z M c low.1.1 (Closure.chain j w)) (clean_matched x y M c h j)
        ];
      }

  -- a clean name is joined with a name of each linked place
  pub clean_partner : {p q x : ℕ} → Linked T pairs p q → Clean p x → (y : ℕ) × (y < m) × Joined T m pairs (Node.name p x) (Node.name q y)
  clean_partner {x = x} l c =
      let M = matched l in
      elim (M.first x c.low) [ inl gone ↦ absurd (c.somewhere gone) | inr one ↦ (one.0, (M.low x one.0 one.1).1, M.joined x one.0 one.1) ]

  -- what is joined at linked places, seen from parts whose names are clean: the names are the binders of the parts, or were joined above
  pub joined_above : {p q x y : ℕ} (u v : Part ℕ) → Linked T pairs p q → In u (parts (T.form p)) → In v (parts (T.form q)) → u.step ≡ v.step → Clean u.at x → Clean v.at y → Joined T m pairs (Node.name u.at x) (Node.name v.at y) → in_parts u v (λ a b. Joined T m pairs (Node.name p a) (Node.name q b)) x y
  joined_above {p = p} {q = q} {x = x} {y = y} u v l i j e c d w =
      let M = matched l in
      let at : in_parts u v M.partner x y = clean_matched x y (matched_parts u v i j e l M) c d.low w in
      elim at [ inl both ↦ inl both | inr neither ↦ inr (neither.0, neither.1, M.joined x y neither.2) ]

  -- a name that is clean in a part, and not the binder of the part, is clean above
  pub clean_above : {p x : ℕ} (u : Part ℕ) → In u (parts (T.form p)) → u.under ≢ Some x → Clean u.at x → Clean p x
  clean_above {p = p} {x = x} u i n c = record {
    low = c.low;
    somewhere = λ gone. c.somewhere (nowhere_part u i n gone);
    alone = λ y w. elim (known_option u.under (Some y)) [
      | inl own ↦ absurd (c.somewhere (nowhere_part u i n (Closure.chain w (binder_nowhere u i own))))
      | inr k ↦ c.alone y (joined_part u u i i refl n k w)
    ];
  }
