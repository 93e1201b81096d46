-- Where the closures are consistent there is a filling, with any closed recipe for the holes that are left open. Assumes nothing.
use Rattle.std.proofs.Common.{◌≡◌, ℕ, zero, suc, ◌+◌, ◌<◌, ◌≤◌, Bool, true, false, ◌≢◌, ◌⊎◌, List, Some, None, Option, sym, refl, ap, ◌∙◌, subst, inl, inr, arith}
use Rattle.std.proofs.lemmas.Bool.{cases_eq}
use Rattle.recipe.specs.Common.{In}
use Rattle.recipe.specs.Fillings.{Filling, Pair, SatisfiesAll, filled_within, layer}
use Rattle.recipe.specs.Links.{Linked, Differ, kind_of}
use Rattle.recipe.specs.Recipes.{Recipe, Part, left, right, inside}
use Rattle.recipe.specs.Sameness.{Sameness}
use Rattle.recipe.specs.Scopes.{NameEqual}
use Rattle.recipe.specs.Tables.{Form, Table, parts, scope}
use Rattle.closure.specs.Closures.{Closure}
use Rattle.closure.specs.Decision.{Consistent, OnlyHoles, SpoiledAmong, WellFormed}
use Rattle.closure.specs.Names.{Node, Joined, NamesHeld}
use Rattle.closure.proofs.EqualNames.{equal_low, equal_name_or_none}
use Rattle.closure.proofs.Forms.{known_hole_at, form_inside, hole_or_not}
use Rattle.closure.proofs.Known.{Known, FirstBelow, least_below}
use Rattle.closure.proofs.Layers.{layer_free, layer_same}
use Rattle.closure.proofs.LinksDecided.{Solid, joined_decided, rank, rank_linked, rank_part, solid_or_open}
use Rattle.closure.proofs.MatchedNames.{Clean, clean_above, clean_along, clean_partner, in_parts, joined_above}
use Rattle.closure.proofs.Relations.{FreeAt, Related, Relation, Closed, under, free_at, compose, converse, identical, related_equal, transport_back, weaken}
use Rattle.closure.proofs.Renaming.{renamed_related, with_names}

-- the least number below n that has a property, or b where none has
abbrev found_or : {P : ℕ → Type 0} {n : ℕ} → ℕ → FirstBelow P n → ℕ
found_or b (inl f) = f.0
found_or b (inr none) = b

found_low : {P : ℕ → Type 0} {n : ℕ} (b : ℕ) → n ≤ b → (d : FirstBelow P n) → found_or b d ≤ b
found_low b h (inl f) = let l = f.1 in omega arith
found_low b h (inr none) = omega arith

found_has : {P : ℕ → Type 0} {n : ℕ} (b y : ℕ) → y < n → P y → (d : FirstBelow P n) → (found_or b d < n) × P (found_or b d)
found_has b y h has (inl f) = (f.1, f.2.has)
found_has b y h has (inr none) = absurd (none y h has)

module _ {L : Type 0} {same : L → L → Bool} (laws : Sameness same) {T : Table L} {m : ℕ} {pairs : List Pair} (ready : WellFormed T m pairs) (consistent : Consistent same T m pairs) (closed : Recipe L) (shut : Closed closed) where
  abbrev linked : ℕ → ℕ → Type 0
  linked p q = Linked T pairs p q

  abbrev joined : ℕ → ℕ → Relation
  joined p q x y = Joined T m pairs (Node.name p x) (Node.name q y)

  abbrev clean : ℕ → ℕ → Type 0
  clean p x = Clean ready p x

  abbrev level : ℕ → ℕ
  level p = rank ready p

  -- a place that is no hole
  abbrev solid : ℕ → Type 0
  solid p = kind_of (T.form p) ≢ 3

  -- a place that is linked with holes alone
  abbrev open_at : ℕ → Type 0
  open_at = OnlyHoles T pairs

  abbrev joined_or_not : (r p x y : ℕ) → Known (joined r p x y)
  joined_or_not r p x y = joined_decided ready (Node.name r x) (Node.name p y)

  -- a place of a hole, or the end of the table
  place_of : ℕ → ℕ
  place_of h = found_or T.size (least_below (λ p. T.form p ≡ Form.hole h) (λ p. known_hole_at h (T.form p)) T.size)

  -- where the hole stands somewhere, it stands there
  place_is : (p h : ℕ) → T.form p ≡ Form.hole h → T.form (place_of h) ≡ Form.hole h
  unfolding place_of
  place_is p h at =
      let within : p < T.size = form_inside ready p (λ n. cc) in
      (found_has T.size p within at (least_below (λ p. T.form p ≡ Form.hole h) (λ p. known_hole_at h (T.form p)) T.size)).1

  -- a name at the place p that x at the place r is joined with, or m
  partner : ℕ → ℕ → ℕ → ℕ
  partner r p x = found_or m (least_below (joined r p x) (joined_or_not r p x) m)

  partner_low : (r p x : ℕ) → partner r p x < suc m
  unfolding partner
  partner_low r p x = let low = found_low m (omega arith) (least_below (joined r p x) (joined_or_not r p x) m) in omega arith

  -- where there is such a name below m, it is joined and below m
  partner_joined : (r p x y : ℕ) → y < m → joined r p x y → (partner r p x < m) × joined r p x (partner r p x)
  unfolding partner
  partner_joined r p x y low j = found_has m y low j (least_below (joined r p x) (joined_or_not r p x) m)

  -- a place of a hole with a solid place that is linked with it, if there is one
  abbrev class_by : (z : ℕ) → ((r : ℕ) × Solid ready z r) ⊎ open_at z → Option (ℕ × ℕ)
  class_by z (inl s) = Some (z, s.0)
  class_by z (inr alone) = None

  class : ℕ → Option (ℕ × ℕ)
  class h = class_by (place_of h) (solid_or_open ready (place_of h))

  -- a place of a hole is linked with the solid place of its class, or with holes alone
  by_class {ℓ} : (P : Option (ℕ × ℕ) → Type ℓ) (p h : ℕ) → T.form p ≡ Form.hole h → ((z r : ℕ) → T.form z ≡ Form.hole h → linked z r → solid r → P (Some (z, r))) → (open_at p → P None) → P (class h)
  unfolding class
  by_class P p h at with_solid alone = by_solid (place_of h) (place_is p h at) (solid_or_open ready (place_of h))
    where
      by_solid : (z : ℕ) → T.form z ≡ Form.hole h → (d : ((r : ℕ) × Solid ready z r) ⊎ open_at z) → P (class_by z d)
      by_solid z is (inl s) = with_solid z s.0 is s.1.has.0 s.1.has.1
      by_solid z is (inr holes) = alone (λ q l. holes q (Linked.chain (Linked.one_hole is at) l))

  -- the text of a place that is no hole, from the texts of its parts
  abbrev solid_text : (ℕ → Recipe L) → ℕ → Recipe L
  solid_text f r = layer (λ h. closed) f (T.form r)

  -- the text of a hole of a class: that of the solid place with the names of the hole's place, or else the closed recipe
  abbrev text_at : (ℕ → Recipe L) → Option (ℕ × ℕ) → Recipe L
  text_at f None = closed
  text_at f (Some (z, r)) = with_names (partner r z) (suc m) (solid_text f r)

  -- the text of a hole, from texts of lower rank
  abbrev hole_text : (ℕ → Recipe L) → Filling L
  hole_text f h = text_at f (class h)

  -- the text of a hole that is linked with holes alone
  hole_open : (f : ℕ → Recipe L) (p h : ℕ) → T.form p ≡ Form.hole h → open_at p → hole_text f h ≡ closed
  hole_open f p h at alone = by_class (λ o. text_at f o ≡ closed) p h at (λ z r is l n. absurd (n (alone r (Linked.chain (Linked.one_hole at is) l)))) (λ holes. refl)

  -- the text of a place, from texts of lower rank
  abbrev next : (ℕ → Recipe L) → ℕ → Recipe L
  next f p = layer (hole_text f) f (T.form p)

  -- the text of a place, down to n ranks
  text : ℕ → ℕ → Recipe L
  text zero p = Recipe.nil
  text (suc n) p = next (text n) p

  -- names that are free in a text are clean
  abbrev CleanTexts : (ℕ → Recipe L) → Type 0
  CleanTexts f = (p : ℕ) (path : List ℕ) (x : ℕ) → FreeAt (f p) path x → clean p x

  -- linked places have texts that are related by joined names
  abbrev RelatedTexts : (ℕ → Recipe L) → Type 1
  RelatedTexts f = (p q : ℕ) → linked p q → Related same (joined p q) (f p) (f q)

  -- the name of a name place is clean, since it is not spoiled
  name_clean : (p x : ℕ) → T.form p ≡ Form.name x → clean p x
  name_clean p x at = record {
    low = ready.names p x at;
    somewhere = λ j. consistent.no_spoiled p (SpoiledAmong.gone at j);
    alone = λ y j. elim (cases_eq y x) [ inl e ↦ e | inr n ↦ absurd (consistent.no_spoiled p (SpoiledAmong.double at n j)) ];
  }

  -- two related texts by way of a third
  by_third : (p q r : ℕ) {t u v : Recipe L} → Related same (joined p r) t v → Related same (joined q r) u v → Related same (joined p q) t u
  by_third p q r a b = weaken (joined p q) (compose laws a (converse laws b)) (λ path x y i j s. Closure.chain s.1 (Closure.back s.2))

  -- a clean name of the solid place is joined with its partner, at each place of the hole
  partner_there : (p z r h x : ℕ) → T.form p ≡ Form.hole h → T.form z ≡ Form.hole h → linked z r → clean r x → joined r p x (partner r z x)
  partner_there p z r h x at is l c =
      let (y, low, j) = clean_partner ready (Linked.back l) c in
      let (below, k) = partner_joined r z x y low j in
      Closure.chain k (Closure.held (NamesHeld.one_hole is at below))

  module _ (f : ℕ → Recipe L) (free_clean : CleanTexts f) where
    -- texts of places that are no holes, of holes, and so of all, have clean names free, if those of lower rank have
    layer_clean : (θ : Filling L) (p : ℕ) (path : List ℕ) (x : ℕ) → solid p → FreeAt (layer θ f (T.form p)) path x → clean p x
    layer_clean θ p path x n free =
        elim (layer_free θ f (T.form p) path x n free) [ inl at ↦ name_clean p x at | inr s ↦ clean_above ready s.0 s.1 s.2 (free_clean s.0.at s.3 x s.4) ]

    hole_clean : (p h : ℕ) (path : List ℕ) (y : ℕ) → T.form p ≡ Form.hole h → FreeAt (hole_text f h) path y → clean p y
    hole_clean p h path y at free =
        by_class (λ o. FreeAt (text_at f o) path y → clean p y) p h at (λ z r is l n renamed.
        let (x, e, before) = transport_back laws (renamed_related laws (partner r z) (suc m) (solid_text f r) (partner_low r z)) renamed in
        let c = layer_clean (λ g. closed) r path x n before in
        rw e (clean_along ready (Linked.chain (Linked.back l) (Linked.one_hole is at)) c (partner_there p z r h x at is l c))) (λ alone none. absurd (shut y (free_at none))) free

    next_clean : CleanTexts (next f)
    next_clean p path x free = elim (hole_or_not (T.form p)) [ inl s ↦ hole_clean p s.0 path x s.1 (rw s.1 at free) | inr n ↦ layer_clean (hole_text f) p path x n free ]

    next_open : (p : ℕ) → open_at p → next f p ≡ closed
    next_open p alone = elim (hole_or_not (T.form p)) [ inl s ↦ rw s.1 (hole_open f p s.0 s.1 alone) | inr n ↦ absurd (n (alone p Linked.itself)) ]

    module _ (parts_related : RelatedTexts f) where
      -- parts at one step of linked places are related by what their joined names are above
      part_related : (S : Relation) (p q : ℕ) (u v : Part ℕ) → linked p q → kind_of (T.form p) ≡ kind_of (T.form q) → In u (parts (T.form p)) → In v (parts (T.form q)) → u.step ≡ v.step → ((x y : ℕ) → in_parts u v (joined p q) x y → S x y) → Related same S (f u.at) (f v.at)
      part_related S p q u v l d i k e above =
          weaken S (parts_related u.at v.at (Linked.one_step u v l d i k e)) (λ path x y a b j. above x y (joined_above ready u v l i k e (free_clean u.at path x a) (free_clean v.at path y b) j))

      -- linked places that are no holes have forms that do not differ, and so related texts
      forms_related : (p q : ℕ) (θ ξ : Filling L) (F G : Form L) → T.form p ≡ F → T.form q ≡ G → linked p q → (Differ same F G → ⊥) → kind_of F ≢ 3 → kind_of G ≢ 3 → Related same (joined p q) (layer θ f F) (layer ξ f G)
      forms_related p q θ ξ Form.nil Form.nil at also l alike n o = Related.nils
      forms_related p q θ ξ (Form.leaf a) (Form.leaf b) at also l alike n o = Related.leaves (not_differ a b (same a b) refl alike)
        where
          not_differ : (a b : L) (t : Bool) → same a b ≡ t → (Differ same (Form.leaf a) (Form.leaf b) → ⊥) → same a b ≡ true
          not_differ a b true e alike = e
          not_differ a b false e alike = absurd (alike (Differ.leaves e))
      forms_related p q θ ξ (Form.name x) (Form.name y) at also l alike n o =
          let together : joined p q x y = elim (joined_or_not p q x y) [ inl j ↦ j | inr none ↦ absurd (consistent.no_spoiled p (SpoiledAmong.apart at also tt l none)) ] in
          Related.names together
      forms_related p q θ ξ (Form.bind a c) (Form.bind b d) at also l alike n o =
          Related.binds (part_related (under (joined p q) a b) p q (inside a c) (inside b d) l (rw (at, also) refl) (rw at (inl refl)) (rw also (inl refl)) refl (λ x y s. elim s [ inl e ↦ inl (cc, cc) | inr e ↦ inr (λ i. e.0 cc, λ i. e.1 cc, e.2) ]))
      forms_related p q θ ξ (Form.call c d) (Form.call g h) at also l alike n o =
          Related.calls
          (part_related (joined p q) p q (left c) (left g) l (rw (at, also) refl) (rw at (inl refl)) (rw also (inl refl)) refl (λ x y s. elim s [ inl e ↦ absurd cc | inr e ↦ e.2 ]))
          (part_related (joined p q) p q (right d) (right h) l (rw (at, also) refl) (rw at (inr (inl refl))) (rw also (inr (inl refl))) refl (λ x y s. elim s [ inl e ↦ absurd cc | inr e ↦ e.2 ]))
      forms_related p q θ ξ F G at also l alike n o = absurd (alike (Differ.kinds n o (λ e. omega arith)))

      solid_related : (p q : ℕ) (θ ξ : Filling L) → linked p q → solid p → solid q → Related same (joined p q) (layer θ f (T.form p)) (layer ξ f (T.form q))
      solid_related p q θ ξ l n o = forms_related p q θ ξ (T.form p) (T.form q) refl refl l (λ d. consistent.no_clash p q (record { linked = l; differ = d })) n o

      -- the text of a hole, and of any place, is related to that of a solid place
      hole_solid : (p h r : ℕ) → T.form p ≡ Form.hole h → linked p r → solid r → Related same (joined p r) (hole_text f h) (solid_text f r)
      hole_solid p h r at l n =
          by_class (λ o. Related same (joined p r) (text_at f o) (solid_text f r)) p h at (λ z s is k o.
          let renamed = renamed_related laws (partner s z) (suc m) (solid_text f s) (partner_low s z) in
          by_third p r s
          (weaken (joined p s) (converse laws renamed) (λ path y x b a e. rw e (Closure.back (partner_there p z s h x at is k (layer_clean (λ g. closed) s path x o a)))))
          (solid_related r s (λ g. closed) (λ g. closed) (Linked.chain (Linked.back l) (Linked.chain (Linked.one_hole at is) k)) n o)) (λ alone. absurd (n (alone r l)))

      next_solid : (p r : ℕ) → linked p r → solid r → Related same (joined p r) (next f p) (solid_text f r)
      next_solid p r l n = elim (hole_or_not (T.form p)) [ inl s ↦ rw s.1 (hole_solid p s.0 r s.1 l n) | inr k ↦ solid_related p r (hole_text f) (λ g. closed) l k n ]

      -- linked places are compared with the solid place of their class, or have the closed recipe
      next_related : RelatedTexts (next f)
      next_related p q l =
          elim (solid_or_open ready p) [
            | inl s ↦ by_third p q s.0 (next_solid p s.0 s.1.has.0 s.1.has.1) (next_solid q s.0 (Linked.chain (Linked.back l) s.1.has.0) s.1.has.1)
            | inr alone ↦ rw (next_open p alone, next_open q (λ r k. alone r (Linked.chain l k))) (identical laws (joined p q) closed (λ path x free. absurd (shut x (free_at free))))
          ]

  -- so both hold down to any number of ranks
  texts_clean : (n : ℕ) → CleanTexts (text n)
  unfolding text
  texts_clean zero p path x free = elim free [ ]
  texts_clean (suc n) p path x free = next_clean (text n) (texts_clean n) p path x free

  texts_related : (n : ℕ) → RelatedTexts (text n)
  unfolding text
  texts_related zero p q l = Related.nils
  texts_related (suc n) p q l = next_related (text n) (texts_clean n) (texts_related n) p q l

  -- texts of lower rank that agree give one text
  next_same : (f g : ℕ → Recipe L) (p : ℕ) → ((c : ℕ) → level c < level p → f c ≡ g c) → next f p ≡ next g p
  next_same f g p agree =
      layer_same (hole_text f) (hole_text g) f g (T.form p) (λ h at. by_class (λ o. text_at f o ≡ text_at g o) p h at (λ z r is l n.
      let equal = rank_linked ready (Linked.chain (Linked.one_hole at is) l) in
      ap (with_names (partner r z) (suc m)) (layer_same (λ g. closed) (λ g. closed) f g (T.form r) (λ h at. refl) (λ y i. agree y.at (let lower = rank_part ready consistent.no_cycle r y i in omega arith)))) (λ alone. refl)) (λ y i. agree y.at (rank_part ready consistent.no_cycle p y i))

  -- more ranks than that of the place change nothing
  enough : (n k p : ℕ) → level p < n → level p < k → text n p ≡ text k p
  unfolding text
  enough zero k p h i = absurd (omega arith)
  enough (suc n) zero p h i = absurd (omega arith)
  enough (suc n) (suc k) p h i = next_same (text n) (text k) p (λ c low. enough n k c (omega arith) (omega arith))

  -- the text of a place
  whole : ℕ → Recipe L
  whole p = text (suc (level p)) p

  whole_next : (p : ℕ) → whole p ≡ next whole p
  unfolding whole text
  whole_next p = next_same (text (level p)) whole p (λ c low. enough (level p) (suc (level c)) c low (omega arith))

  whole_clean : CleanTexts whole
  unfolding whole
  whole_clean p = texts_clean (suc (level p)) p

  whole_related : RelatedTexts whole
  unfolding whole
  whole_related p q l =
      subst (λ n. Related same (joined p q) (text (suc (level p)) p) (text (suc n) q)) (rank_linked ready l) (texts_related (suc (level p)) p q l)

  pub built : Filling L
  built = hole_text whole

  -- filling by the texts of the holes makes the texts of all places
  filled_whole : (n p : ℕ) → T.size ≤ p + n → filled_within T built n p ≡ whole p
  unfolding filled_within built
  filled_whole zero p h = sym (whole_next p ∙ ap (layer built whole) (ready.past p (omega arith)))
  filled_whole (suc n) p h =
      layer_same built built (filled_within T built n) whole (T.form p) (λ g at. refl) (λ y i. filled_whole n y.at (let up = ready.ordered.rising p y i in omega arith)) ∙ sym (whole_next p)

  -- clean names of two told places that are joined are equal in the scopes, since the equal name is joined too
  told_equal : (p q x y : ℕ) → In (p, q) pairs → clean p x → clean q y → joined p q x y → NameEqual (scope T p) x (scope T q) y
  told_equal p q x y i c d j =
      elim (equal_name_or_none (scope T p) (scope T q) x) [
        | inl s ↦ rw (← d.alone s.0 (Closure.chain (Closure.back j) (Closure.held (NamesHeld.told i c.low (equal_low ready (scope T p) q x s.0 c.low s.1) s.1)))) s.1
        | inr none ↦ absurd (c.somewhere (Closure.held (NamesHeld.no_second q i c.low none)))
      ]

  pub built_satisfies : SatisfiesAll same T built pairs
  built_satisfies pair i =
      let (p, q) = pair in
      rw (filled_whole T.size p (omega arith), filled_whole T.size q (omega arith)) (related_equal (scope T p) (scope T q) (weaken (λ x y. NameEqual (scope T p) x (scope T q) y) (whole_related p q (Linked.told i)) (λ path x y a b j. told_equal p q x y i (whole_clean p path x a) (whole_clean q path y b) j)) (λ x y e. e))

  -- a hole that is linked with holes alone is filled with the closed recipe
  pub built_open : (p h : ℕ) → T.form p ≡ Form.hole h → OnlyHoles T pairs p → built h ≡ closed
  unfolding built
  built_open p h at alone = hole_open whole p h at alone
