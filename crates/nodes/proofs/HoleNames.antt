-- Joining the names at each place of a hole with those at the lowest place of the hole. Assumes nothing.
use Rattle.std.proofs.Common.{◌≡◌, ℕ, zero, suc, ◌+◌, ◌*◌, ◌<◌, ◌⊎◌, List, ◌++◌, length, refl, sym, ap, ◌∙◌, inl, inr, add-one, arith}
use Rattle.std.proofs.lemmas.Bool.{cases_lt, cond_above}
use Rattle.recipe.specs.Common.{In, Least}
use Rattle.recipe.specs.Fillings.{Pair}
use Rattle.recipe.specs.Tables.{Form, Table}
use Rattle.closure.specs.Closures.{Closure}
use Rattle.closure.specs.Names.{NamesHeld, Node}
use Rattle.forest.specs.Exact as forest
use Rattle.nodes.specs.NameClasses.{InTable, NumbersJoined, name_parts, node_number}
use Rattle.nodes.specs.NameSteps.{BinderBelow, HeldAlways, NamesAlways, PairsMore, binder_of_form, same_names}
use Rattle.nodes.specs.Records.{written, written_form}
use Rattle.nodes.proofs.FirstRows.{form_written}
use Rattle.nodes.proofs.NamesMore.{names_many, names_said}

-- a name at two places of one hole, for the places below n
pub data HoleBelow {L : Type 0} (T : Table L) (m n : ℕ) : Node → Node → Type 0 where
  pair : {p q h x : ℕ} → p < n → q < n → T.form p ≡ Form.hole h → T.form q ≡ Form.hole h → x < m → HoleBelow T m n (Node.name p x) (Node.name q x)

-- the names of all binds, and those at places below n of holes
abbrev pub BindersAndBelow : {L : Type 0} → Table L → ℕ → ℕ → Node → Node → Type 0
BindersAndBelow T m n a b = BinderBelow T T.size a b ⊎ HoleBelow T m n a b

module _ (m p q : ℕ) where
  -- the pairs have the numbers of one name
  same_pair : (k u v : ℕ) → In (u, v) (same_names m p q k) → (x : ℕ) × (x < k) × (suc (p * m + x) ≡ u) × (suc (q * m + x) ≡ v)
  same_pair zero u v i = absurd i
  same_pair (suc k) u v (inl e) = (k, omega arith, sym (ap (λ w. w.0) e), sym (ap (λ w. w.1) e))
  same_pair (suc k) u v (inr i) = let (x, low, first, second) = same_pair k u v i in (x, omega arith, first, second)

  -- and each name has a pair
  same_has : (k x : ℕ) → x < k → In (suc (p * m + x), suc (q * m + x)) (same_names m p q k)
  same_has zero x low = absurd (omega arith)
  same_has (suc k) x low = elim (cases_lt x k) [
    | inl l ↦ inr (same_has k x l)
    | inr past ↦ let is : x ≡ k = omega arith in inl (rw is refl)
  ]

  -- one name more
  pub same_more : (x u v : ℕ) (old mid new : List ℕ) → u ≡ suc (p * m + x) → v ≡ suc (q * m + x) → PairsMore (same_names m p q x) old mid → forest.OneMore u v mid new → PairsMore (same_names m p q (x + 1)) old new
  same_more x u v old mid new first second some more sub pairs exact =
      let step : forest.OneMore (suc (p * m + x)) (suc (q * m + x)) mid new = rw (← first, ← second) more in
      rw add-one (step sub (same_names m p q x ++ pairs) (some sub pairs exact))

module _ {L : Type 0} (T : Table L) (m p : ℕ) where
  -- a place that is no hole
  hole_skip : ((h : ℕ) → T.form p ≡ Form.hole h → ⊥) → (a b : Node) → HoleBelow T m (p + 1) a b → HoleBelow T m p a b
  hole_skip none a b (HoleBelow.pair {p = u} {q = v} {h = h} low less d e few) = elim (cases_lt u p) [
    | inr past ↦ let is : u ≡ p = omega arith in absurd (none h (rw is at d))
    | inl l ↦ elim (cases_lt v p) [
      | inr past ↦ let is : v ≡ p = omega arith in absurd (none h (rw is at e))
      | inl k ↦ HoleBelow.pair l k d e few
    ]
  ]

  pub holes_skip : (rows : List ℕ) → ((h : ℕ) → T.form p ≡ Form.hole h → ⊥) → NamesAlways T m (BindersAndBelow T m p) rows → NamesAlways T m (BindersAndBelow T m (p + 1)) rows
  holes_skip rows none below told =
      let some = below told in
      names_said T m told some (λ a b h. some.done a b (elim h [ inl k ↦ inl k | inr k ↦ inr (hole_skip none a b k) ]))

  module _ (r h : ℕ) (low : p < T.size) (here : T.form p ≡ Form.hole h) (least : Least (λ q. T.form q ≡ Form.hole h) r) where
    -- the names at the two places are joined
    same_joined : (told : List Pair) (u v : ℕ) → In (u, v) (same_names m r p m) → NumbersJoined T m told u v
    same_joined told u v i =
        let (x, few, first, second) = same_pair m r p m u v i in
        let le = least.lowest p here in
        record {
          first = Node.name r x;
          second = Node.name p x;
          first_in = InTable.name (omega arith) few;
          second_in = InTable.name low few;
          first_is = first;
          second_is = second;
          joined = Closure.held (NamesHeld.one_hole least.has here few);
        }

    module _ (pairs : List (ℕ × ℕ)) (done : (a b : Node) → BindersAndBelow T m p a b ⊎ In (node_number m a, node_number m b) (same_names m r p m) → forest.Joined (name_parts T m) pairs (node_number m a) (node_number m b)) where
      -- a name at a place of the hole is joined with that at the lowest
      to_lowest : (q x : ℕ) → q < p + 1 → T.form q ≡ Form.hole h → x < m → forest.Joined (name_parts T m) pairs (suc (r * m + x)) (suc (q * m + x))
      to_lowest q x less there few = elim (cases_lt q p) [
        | inl l ↦ let le = least.lowest q there in done (Node.name r x) (Node.name q x) (inl (inr (HoleBelow.pair (omega arith) l least.has there few)))
        | inr past ↦ let is : q ≡ p = omega arith in done (Node.name r x) (Node.name q x) (inr (rw is (same_has m r p m x few)))
      ]

      hole_joined : (a b : Node) → HoleBelow T m (p + 1) a b → forest.Joined (name_parts T m) pairs (node_number m a) (node_number m b)
      hole_joined a b (HoleBelow.pair {p = u} {q = v} {h = k} {x = x} one two d e few) = elim (cases_lt u p) [
        | inr past ↦
            let is : u ≡ p = omega arith in
            let same : k ≡ h = let f : Form.hole k ≡ Form.hole h = sym (rw is at d) ∙ here in cc in
            Closure.chain (Closure.back (to_lowest u x one (rw same at d) few)) (to_lowest v x two (rw same at e) few)
        | inl l ↦ elim (cases_lt v p) [
          | inr past ↦
              let is : v ≡ p = omega arith in
              let same : k ≡ h = let f : Form.hole k ≡ Form.hole h = sym (rw is at e) ∙ here in cc in
              Closure.chain (Closure.back (to_lowest u x one (rw same at d) few)) (to_lowest v x two (rw same at e) few)
          | inl j ↦ done (Node.name u x) (Node.name v x) (inl (inr (HoleBelow.pair l j d e few)))
        ]
      ]

    -- a place of a hole, its names joined with those at the lowest
    pub holes_more : (old new : List ℕ) → length new ≡ length old → PairsMore (same_names m r p m) old new → NamesAlways T m (BindersAndBelow T m p) old → NamesAlways T m (BindersAndBelow T m (p + 1)) new
    holes_more old new long more below told =
        let some = names_many T m told (same_names m r p m) (below told) long (same_joined told) more in
        names_said T m told some (λ a b k. elim k [ inl i ↦ some.done a b (inl (inl i)) | inr i ↦ hole_joined some.pairs some.done a b i ])

module _ (n : ℕ) (ws : List ℕ) where
  -- what is no nil is written
  form_inside : (p : ℕ) → ((written n ws).form p ≡ Form.nil → ⊥) → (p < n) × ((written n ws).form p ≡ written_form ws p)
  form_inside p other = elim (cases_lt p n) [
    | inl low ↦ (low, form_written n ws p low)
    | inr past ↦ let f : Form.nil ≡ (written n ws).form p = cond_above p n _ _ _ past refl in absurd (other (sym f))
  ]

  pub hole_inside : (p h : ℕ) → (written n ws).form p ≡ Form.hole h → (p < n) × (written_form ws p ≡ Form.hole h)
  hole_inside p h e =
      let (low, is) = form_inside p (λ f. let bad : Form.hole h ≡ Form.nil = sym e ∙ f in cc) in
      (low, sym is ∙ e)

  -- the lowest place of a written hole is that of the table
  pub lowest_written : (p h r : ℕ) → p < n → written_form ws p ≡ Form.hole h → Least (λ q. written_form ws q ≡ Form.hole h) r → Least (λ q. (written n ws).form q ≡ Form.hole h) r
  lowest_written p h r low here least =
      let le = least.lowest p here in
      record {
        has = form_written n ws r (omega arith) ∙ least.has;
        lowest = λ k e. least.lowest k (hole_inside k h e).1;
      }

  always_below : (m : ℕ) (a b : Node) → HeldAlways (written n ws) m a b → BindersAndBelow (written n ws) m n a b
  always_below m a b (HeldAlways.own_binder {p = p} e) = inl (BinderBelow.own (form_inside p (λ f. cc)).0 (ap binder_of_form e))
  always_below m a b (HeldAlways.one_hole {p = p} {q = q} {h = h} d e few) = inr (HoleBelow.pair (hole_inside p h d).0 (hole_inside q h e).0 d e few)

  -- at the end all that binders and holes say is done
  pub always_done : (m : ℕ) (rows : List ℕ) → NamesAlways (written n ws) m (BindersAndBelow (written n ws) m n) rows → NamesAlways (written n ws) m (HeldAlways (written n ws) m) rows
  always_done m rows below told = let some = below told in names_said (written n ws) m told some (λ a b h. some.done a b (always_below m a b h))

module _ {L : Type 0} (T : Table L) (m : ℕ) where
  -- no place is below 0
  none_below : (a b : Node) → BindersAndBelow T m 0 a b → BinderBelow T T.size a b
  none_below a b (inl h) = h
  none_below a b (inr (HoleBelow.pair low less d e few)) = absurd (omega arith)

  pub holes_none : (rows : List ℕ) → NamesAlways T m (BinderBelow T T.size) rows → NamesAlways T m (BindersAndBelow T m 0) rows
  holes_none rows binders told = let some = binders told in names_said T m told some (λ a b h. some.done a b (none_below a b h))
