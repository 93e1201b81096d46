-- Joining the names of the binders of linked binds. Assumes nothing.
use Rattle.std.proofs.Common.{◌≡◌, ◌≢◌, ◌⊎◌, ℕ, suc, ◌+◌, ◌*◌, ◌<◌, ◌≤◌, List, [], ◌∷◌, ◌++◌, length, Some, None, Option, get_or, set, slice_index, refl, sym, ap, ◌∙◌, inl, inr, arith, get_or-set_other, get_or-set_same}
use Rattle.std.proofs.lemmas.Bool.{cases_eq, cases_lt, cond_above}
use Rattle.std.proofs.lemmas.Option.{none-some}
use Rattle.recipe.specs.Common.{In}
use Rattle.recipe.specs.Fillings.{Pair}
use Rattle.recipe.specs.Recipes.{Part}
use Rattle.recipe.specs.Tables.{Form, Table, parts}
use Rattle.recipe.specs.Validity.{Ordered}
use Rattle.closure.specs.Closures.{Closure}
use Rattle.closure.specs.Names.{NamesHeld, Node}
use Rattle.closure.proofs.ClosureGrown.{closure_over}
use Rattle.forest.specs.Exact as forest
use Rattle.forest.specs.Rows.{root}
use Rattle.nodes.specs.Binders.{TiesBinders, TwoBinders}
use Rattle.nodes.specs.BoundNumbers.{BindFew, BothBound, Tied, bound_number}
use Rattle.nodes.specs.NameClasses.{InTable, NamesSome, NumbersJoined, name_parts, node_number}
use Rattle.nodes.specs.NameSteps.{BindersFew}
use Rattle.nodes.specs.PlaceClasses.{RootsLink}
use Rattle.nodes.specs.Records.{written, written_form}
use Rattle.nodes.proofs.FirstRows.{form_written}
use Rattle.nodes.proofs.NameNumbers.{number_below}
use Rattle.nodes.proofs.NamesMore.{names_over, names_to}

-- the bind that words write
pub bind_written : (ws : List ℕ) (p : ℕ) → slice_index ws (8 * p) ≡ 4 → written_form ws p ≡ Form.bind (slice_index ws (8 * p + 1)) (slice_index ws (8 * p + 2))
bind_written ws p e = rw e refl

module _ {L : Type 0} (m : ℕ) where
  -- a number is of the name of the binder of a part
  pub record OfBinder (f : Form L) (u : ℕ) : Type 0 where
    pub name : ℕ
    pub part : Part ℕ
    pub stands : In part (parts f)
    pub inside : part.step ≡ 2
    pub under : part.under ≡ Some name
    pub number : suc (part.at * m + name) ≡ u

  -- the number of a bind is of its binder
  pub bound_of : (f : Form L) (u : ℕ) → bound_number m f ≡ Some u → OfBinder f u
  bound_of Form.nil u e = absurd (none-some u e)
  bound_of (Form.leaf l) u e = absurd (none-some u e)
  bound_of (Form.name x) u e = absurd (none-some u e)
  bound_of (Form.hole h) u e = absurd (none-some u e)
  bound_of (Form.bind a c) u e = record { name = a; part = record { step = 2; at = c; under = Some a }; stands = inl refl; inside = refl; under = refl; number = let f : ◌≡◌ {A = Option ℕ} (Some (suc (c * m + a))) (Some u) = e in cc }
  bound_of (Form.call c d) u e = absurd (none-some u e)

  -- and a part under a binder has that number
  pub bound_there : (f : Form L) (a : ℕ) (y : Part ℕ) → In y (parts f) → y.under ≡ Some a → bound_number m f ≡ Some (suc (y.at * m + a))
  bound_there Form.nil a y i e = absurd i
  bound_there (Form.leaf l) a y i e = absurd i
  bound_there (Form.name x) a y i e = absurd i
  bound_there (Form.hole h) a y i e = absurd i
  bound_there (Form.bind b c) a y (inl is) e = let f : ◌≡◌ {A = Option ℕ} (Some b) (Some a) = rw is at e in let same : b ≡ a = cc in rw (is, same) refl
  bound_there (Form.bind b c) a y (inr i) e = absurd i
  bound_there (Form.call c d) a y (inl is) e = absurd (none-some a (rw is at e))
  bound_there (Form.call c d) a y (inr (inl is)) e = absurd (none-some a (rw is at e))
  bound_there (Form.call c d) a y (inr (inr i)) e = absurd i

module _ (n m : ℕ) (ws : List ℕ) (ordered : Ordered (written n ws)) (few : BindersFew (written n ws) m) where
  -- the names of binds are below m, and the parts of binds places of the table
  pub bind_few : n ≤ 512 → (p : ℕ) → p < n → BindFew ws m p
  bind_few fits p low a c e =
      let y : Part ℕ = record { step = 2; at = c; under = Some a } in
      let i : In y (parts ((written n ws).form p)) = rw (form_written n ws p low, e) (inl refl) in
      let inside = (ordered.rising p y i).1 in
      (few p a y i refl, omega arith)

  -- the binder of a written place of the table
  written_of : (p u : ℕ) → p < n → bound_number m (written_form ws p) ≡ Some u → OfBinder m ((written n ws).form p) u
  written_of p u low e = bound_of m ((written n ws).form p) u (rw (form_written n ws p low) e)

  -- the number of a bind is of a node of the forest over names
  pub number_inside : (p u : ℕ) → p < n → bound_number m (written_form ws p) ≡ Some u → u < suc (m * n)
  number_inside p u low e =
      let x = written_of p u low e in
      rw (← x.number) (number_below (written n ws) m (InTable.name (ordered.rising p x.part x.stands).1 (few p x.name x.part x.stands x.under)))

module _ (m : ℕ) (rows ws old : List ℕ) where
  -- no bind is below 0
  pub tied_none : (marks : List ℕ) → ((r : ℕ) → get_or marks r 0 ≡ 0) → Tied m rows ws old 0 marks old
  tied_none marks blank = record {
    pairs = [];
    more = λ sub pairs exact. exact;
    held = λ u v i. absurd i;
    marked = λ r ne. absurd (ne (blank r));
    done = λ k u h e. absurd (omega arith);
  }

  -- what is below n is below n + 1
  bound_more : (n u v : ℕ) → BothBound m rows ws n u v → BothBound m rows ws (n + 1) u v
  bound_more n u v b = record {
    first = b.first;
    second = b.second;
    first_low = let low = b.first_low in omega arith;
    second_low = let low = b.second_low in omega arith;
    one_root = b.one_root;
    first_is = b.first_is;
    second_is = b.second_is;
  }

  module _ (n : ℕ) (marks now : List ℕ) (t : Tied m rows ws old n marks now) where
    -- a place that is no bind
    pub tied_skip : bound_number m (written_form ws n) ≡ None → Tied m rows ws old (n + 1) marks now
    tied_skip none = record {
      pairs = t.pairs;
      more = t.more;
      held = λ u v i. bound_more n u v (t.held u v i);
      marked = λ r ne. let (k, low, at, is) = t.marked r ne in (k, omega arith, at, is);
      done = λ k u h e. elim (cases_eq k n) [
        | inl one ↦ absurd (none-some u (sym none ∙ rw one at e))
        | inr other ↦ t.done k u (omega arith) e
      ];
    }

    module _ (w : ℕ) (here : bound_number m (written_form ws n) ≡ Some w) where
      number_here : (k u : ℕ) → k ≡ n → bound_number m (written_form ws k) ≡ Some u → u ≡ w
      number_here k u one e = let f : ◌≡◌ {A = Option ℕ} (Some u) (Some w) = sym e ∙ rw one here in cc

      number_some : w ≢ 0
      number_some e = let is = (bound_of m (written_form ws n) w here).number in omega arith

      -- the first bind of a root, which is marked
      pub tied_first : get_or marks (root rows n) 0 ≡ 0 → root rows n < length marks → Tied m rows ws old (n + 1) (set marks (root rows n) w) now
      tied_first blank room = record {
        pairs = t.pairs;
        more = t.more;
        held = λ u v i. bound_more n u v (t.held u v i);
        marked = λ r ne. elim (cases_eq r (root rows n)) [
          | inl one ↦ (n, omega arith, sym one, here ∙ ap Some (sym (marked r one)))
          | inr other ↦ let (k, low, at, is) = t.marked r (λ e. ne (there r other ∙ e)) in (k, omega arith, at, is ∙ ap Some (sym (there r other)))
        ];
        done = λ k u h e. elim (cases_eq (root rows k) (root rows n)) [
          | inl one ↦ elim (cases_eq k n) [
            | inl it ↦ (λ z. number_some (sym (marked (root rows k) one) ∙ z), λ sub. rw (marked (root rows k) one, number_here k u it e) Closure.itself)
            | inr less ↦ absurd ((t.done k u (omega arith) e).0 (rw one blank))
          ]
          | inr other ↦ let low = elsewhere k h other in let d = t.done k u low e in rw (there (root rows k) other) d
        ];
      }
        where
          marked : (r : ℕ) → r ≡ root rows n → get_or (set marks (root rows n) w) r 0 ≡ w
          marked r e = rw (e, get_or-set_same) refl

          there : (r : ℕ) → r ≢ root rows n → get_or (set marks (root rows n) w) r 0 ≡ get_or marks r 0
          there r ne = get_or-set_other marks (root rows n) r w 0 ne

          elsewhere : (k : ℕ) → k < n + 1 → root rows k ≢ root rows n → k < n
          elsewhere k h ne = elim (cases_eq k n) [ inl e ↦ absurd (ne (ap (root rows) e)) | inr other ↦ omega arith ]

      -- a later one, whose number is joined with the marked one
      module _ (new : List ℕ) (ne : get_or marks (root rows n) 0 ≢ 0) (more : forest.OneMore (get_or marks (root rows n) 0) w now new) where
        held_more : (u v : ℕ) → In (u, v) ((get_or marks (root rows n) 0, w) ∷ t.pairs) → BothBound m rows ws (n + 1) u v
        held_more u v (inl e) =
            let (k, low, at, is) = t.marked (root rows n) ne in
            record {
              first = k;
              second = n;
              first_low = omega arith;
              second_low = omega arith;
              one_root = at;
              first_is = is ∙ ap Some (sym (ap (λ z. z.0) e));
              second_is = here ∙ ap Some (sym (ap (λ z. z.1) e));
            }
        held_more u v (inr i) = bound_more n u v (t.held u v i)

        pub tied_more : Tied m rows ws old (n + 1) marks new
        tied_more = record {
          pairs = (get_or marks (root rows n) 0, w) ∷ t.pairs;
          more = λ sub pairs exact. more sub (t.pairs ++ pairs) (t.more sub pairs exact);
          held = held_more;
          marked = λ r some. let (k, low, at, is) = t.marked r some in (k, omega arith, at, is);
          done = λ k u h e. elim (cases_eq k n) [
            | inl one ↦ (rw one ne, λ sub. rw (one, number_here k u one e) (Closure.held (inl refl)))
            | inr other ↦ let (some, all) = t.done k u (omega arith) e in (some, λ sub. closure_over (λ i j l. inr l) (all sub))
          ];
        }

-- the names of binders that are linked joined: whatever was done is done, and that too
pub names_tied : {L : Type 0} (T : Table L) (m : ℕ) (told : List Pair) {Done : Node → Node → Type 0} (old new : List ℕ) → TiesBinders T m told old new → length new ≡ length old → NamesSome T m told Done old → NamesSome T m told (λ a b. Done a b ⊎ TwoBinders T told a b) new
names_tied T m told old new ties long some = names_to T m told (λ a b h. elim h [ inl d ↦ inl d | inr two ↦ inr (ties.tied a b two) ]) (names_over T m told ties.pairs some long ties.joined ties.more)

module _ (n m : ℕ) (rows ws old marks now : List ℕ) (ordered : Ordered (written n ws)) (few : BindersFew (written n ws) m) (t : Tied m rows ws old n marks now) where
  -- a place with a part is in the table
  place_inside : (p : ℕ) (y : Part ℕ) → In y (parts ((written n ws).form p)) → p < n
  place_inside p y i = elim (cases_lt p n) [
    | inl low ↦ low
    | inr past ↦ let f : Form.nil ≡ (written n ws).form p = cond_above p n _ _ _ past refl in let none : In y [] = rw (← f) at i in absurd none
  ]

  number_written : (p a : ℕ) (y : Part ℕ) → In y (parts ((written n ws).form p)) → y.under ≡ Some a → bound_number m (written_form ws p) ≡ Some (suc (y.at * m + a))
  number_written p a y i e = rw (← form_written n ws p (place_inside p y i)) (bound_there m ((written n ws).form p) a y i e)

  module _ (told : List Pair) (links : RootsLink (written n ws) told rows) where
    both_joined : (u v : ℕ) → BothBound m rows ws n u v → NumbersJoined (written n ws) m told u v
    both_joined u v b =
        let x = written_of n m ws ordered few b.first u b.first_low b.first_is in
        let y = written_of n m ws ordered few b.second v b.second_low b.second_is in
        record {
          first = Node.name x.part.at x.name;
          second = Node.name y.part.at y.name;
          first_in = InTable.name (ordered.rising b.first x.part x.stands).1 (few b.first x.name x.part x.stands x.under);
          second_in = InTable.name (ordered.rising b.second y.part y.stands).1 (few b.second y.name y.part y.stands y.under);
          first_is = x.number;
          second_is = y.number;
          joined = Closure.held (NamesHeld.two_binders x.part y.part ((links b.first b.second b.first_low b.second_low).0 b.one_root) x.stands y.stands (x.inside ∙ sym y.inside) x.under y.under);
        }

    two_tied : (a b : Node) → TwoBinders (written n ws) told a b → forest.Joined (name_parts (written n ws) m) t.pairs (node_number m a) (node_number m b)
    two_tied a b (TwoBinders.two_binders {p = p} {q = q} {a = x} {b = w} y z l i j s e f) =
        let low = place_inside p y i in
        let less = place_inside q z j in
        let one = (links p q low less).1 l in
        let first = (t.done p (suc (y.at * m + x)) low (number_written p x y i e)).1 (name_parts (written n ws) m) in
        let second = (t.done q (suc (z.at * m + w)) less (number_written q w z j f)).1 (name_parts (written n ws) m) in
        Closure.chain (Closure.back first) (rw one second)

    -- at the end the names of all binders that are linked are joined
    pub tied_all : TiesBinders (written n ws) m told old now
    tied_all = record {
      pairs = t.pairs;
      more = t.more;
      joined = λ u v i. both_joined u v (t.held u v i);
      tied = two_tied;
    }
