-- Places that come back to themselves, from roots that lead to themselves. Assumes nothing.
use Rattle.std.proofs.Common.{◌≡◌, ℕ, ◌<◌, ◌≤◌, ◌⊎◌, List, Some, None, Option, MatchOption, refl, sym, inl, inr, arith}
use Rattle.std.proofs.lemmas.Bool.{cases_lt}
use Rattle.recipe.specs.Common.{In, Least}
use Rattle.recipe.specs.Fillings.{Pair}
use Rattle.recipe.specs.Links.{ComesBack, Linked, Reaches}
use Rattle.recipe.specs.Recipes.{Part}
use Rattle.recipe.specs.Tables.{Form, Table, parts}
use Rattle.recipe.specs.Tells.{NoCycle}
use Rattle.closure.specs.Closures.{Closure}
use Rattle.forest.specs.Rows.{root}
use Rattle.forest.proofs.Roots.{root_fixed, root_node}
use Rattle.nodes.specs.Searches.{Leads, RootReturns, SomeCycle, Step}
use Rattle.nodes.specs.Searches.{LowestBelow}
use Rattle.nodes.specs.PlaceClasses.{PlacesJoined, RootsLink}
use Rattle.nodes.proofs.PlaceParts.{part_found, part_is_found}
use Rattle.nodes.proofs.PlacesInside.{holder_inside, linked_inside, moved_in, node, part_inside, place, turned}

module _ (rows : List ℕ) where
  -- ways are put end to end
  pub leads_on : {r s t : ℕ} → Leads rows r s → Leads rows s t → Leads rows r t
  leads_on (Leads.one e) m = Leads.more e m
  leads_on (Leads.more e l) m = Leads.more e (leads_on l m)

  way_on : {r s t : ℕ} → (r ≡ s) ⊎ Leads rows r s → Leads rows s t → Leads rows r t
  way_on (inl e) m = rw e m
  way_on (inr l) m = leads_on l m

  step_on : {r s t : ℕ} → Step rows r s → (s ≡ t) ⊎ Leads rows s t → Leads rows r t
  step_on e (inl is) = rw (← is) (Leads.one e)
  step_on e (inr l) = Leads.more e l

-- a way goes on over a link
reaches_on : {L : Type 0} {T : Table L} {told : List Pair} {p q r : ℕ} → Reaches T told p q → Linked T told q r → Reaches T told p r
reaches_on Reaches.here l = Reaches.to_linked l Reaches.here
reaches_on (Reaches.to_linked k w) l = Reaches.to_linked k (reaches_on w l)
reaches_on (Reaches.to_part x i w) l = Reaches.to_part x i (reaches_on w l)

module _ {L : Type 0} (T : Table L) (told : List Pair) (rows : List ℕ) (past : (p : ℕ) → T.size ≤ p → T.form p ≡ Form.nil) (joined : PlacesJoined T told rows) where
  -- a way between places starts and ends in the table, or nowhere there
  reaches_inside : {p q : ℕ} → Reaches T told p q → p < T.size → q < T.size
  reaches_inside Reaches.here h = h
  reaches_inside (Reaches.to_linked l w) h = reaches_inside w (moved_in T.size (linked_inside T told rows past joined l) h)
  reaches_inside (Reaches.to_part {p = p} x i w) h = reaches_inside w (part_inside T told rows past joined p x i)

  reaches_from : {p q : ℕ} → Reaches T told p q → q < T.size → p < T.size
  reaches_from Reaches.here h = h
  reaches_from (Reaches.to_linked l w) h = moved_in T.size (turned T.size (linked_inside T told rows past joined l)) (reaches_from w h)
  reaches_from (Reaches.to_part {p = p} x i w) h = holder_inside T told rows past joined p x i

  -- the root of a place T told rows past joined has a step to the root of each part of the place
  part_step : (p : ℕ) (x : Part ℕ) → In x (parts (T.form p)) → Step rows (root rows p) (root rows x.at)
  part_step p x i =
      let exact = joined.exact in
      let (low, at) = part_is_found (T.form p) x i in
      let here = node T told rows past joined p (holder_inside T told rows past joined p x i) in
      let (d, has) = exact.some p x.step x.at here low at in
      let (j, j_node, one, by) = exact.of_class (root rows p) x.step d (root_node rows p exact.rows.low here) low (root_fixed rows p exact.rows.low) has in
      record {
        side = x.step;
        part = d;
        low = low;
        has = has;
        to = (exact.classes d x.at (exact.nodes j x.step d j_node low by) (node T told rows past joined x.at (part_inside T told rows past joined p x i))).1 (Closure.part {s = x.step} ((exact.classes j p j_node here).0 one) (low, by) (low, at));
      }

  module _ (roots : RootsLink T told rows) where
    -- a way between places is one between their roots, or they have one root
    reaches_leads : {p q : ℕ} → Reaches T told p q → p < T.size → (root rows p ≡ root rows q) ⊎ Leads rows (root rows p) (root rows q)
    reaches_leads Reaches.here h = inl refl
    reaches_leads (Reaches.to_linked {p = p} {q = q} l w) h =
        let there = moved_in T.size (linked_inside T told rows past joined l) h in
        rw ((roots p q h there).1 l) (reaches_leads w there)
    reaches_leads (Reaches.to_part {p = p} x i w) h = inr (step_on rows (part_step p x i) (reaches_leads w (part_inside T told rows past joined p x i)))

    -- what comes back to itself is a place of the table, whose root leads to itself
    pub back_leads : (p : ℕ) → ComesBack T told p → (p < T.size) × RootReturns rows p
    back_leads p back =
        let held = holder_inside T told rows past joined back.holder back.part back.down in
        let here = reaches_from back.there held in
        (here, way_on rows (reaches_leads back.there here) (step_on rows (part_step back.holder back.part back.down) (reaches_leads back.return (part_inside T told rows past joined back.holder back.part back.down))))

    -- a step from the root of a place is down to a part of a place that is linked to it
    step_down : (p s : ℕ) → p < T.size → Step rows (root rows p) s → (h : ℕ) × (x : Part ℕ) × Linked T told p h × In x (parts (T.form h)) × (root rows x.at ≡ s)
    step_down p s here e =
        let exact = joined.exact in
        let at_root = node T told rows past joined p here in
        let (h, held, one, by) = exact.of_class (root rows p) e.side e.part (root_node rows p exact.rows.low at_root) e.low (root_fixed rows p exact.rows.low) e.has in
        let (x, i, s_is, at) = part_found (parts (T.form h)) e.side e.part by in
        (h, x, (roots p h here (place T told rows past joined h held)).0 (sym one), i, rw (sym at) at e.to)

    -- so a way from its root is one down from such a place
    leads_down : {r t : ℕ} (p : ℕ) → p < T.size → Leads rows r t → root rows p ≡ r → (h : ℕ) × (x : Part ℕ) × (b : ℕ) × Linked T told p h × In x (parts (T.form h)) × Reaches T told x.at b × (b < T.size) × (root rows b ≡ t)
    leads_down {r} {t} p here (Leads.one e) is =
        let (h, x, l, i, to) = step_down p t here (rw (sym is) at e) in
        (h, x, x.at, l, i, Reaches.here, part_inside T told rows past joined h x i, to)
    leads_down p here (Leads.more {s = s} e w) is =
        let (h, x, l, i, to) = step_down p s here (rw (sym is) at e) in
        let (k, y, b, m, j, way, b_in, b_is) = leads_down x.at (part_inside T told rows past joined h x i) w to in
        (h, x, b, l, i, Reaches.to_linked m (Reaches.to_part y j way), b_in, b_is)

    pub leads_back : (p : ℕ) → p < T.size → RootReturns rows p → ComesBack T told p
    leads_back p here w =
        let (h, x, b, l, i, way, b_in, b_is) = leads_down p here w refl in
        record { holder = h; part = x; there = Reaches.to_linked l Reaches.here; down = i; return = reaches_on way ((roots b p b_in here).0 b_is) }

    -- where no root leads to itself, no place comes back to itself
    pub no_cycle : (SomeCycle rows → ⊥) → NoCycle T told
    no_cycle none p back =
        let (here, w) = back_leads p back in
        none (root rows p, root_node rows p joined.exact.rows.low (node T told rows past joined p here), w)

    -- the lowest place whose root leads to itself is the lowest that comes back to itself
    pub lowest_back : (p : ℕ) → p < T.size → RootReturns rows p → ((j : ℕ) → j < p → RootReturns rows j → ⊥) → Least (ComesBack T told) p
    lowest_back p here w low = record {
      has = leads_back p here w;
      lowest = λ j back. elim (cases_lt j p) [ inl l ↦ absurd (low j l (back_leads j back).1) | inr l ↦ l ];
    }

    pub none_back : ((p : ℕ) → p < T.size → RootReturns rows p → ⊥) → NoCycle T told
    none_back none p back = let (here, w) = back_leads p back in none p here w

    -- so the lowest place whose root leads to itself is what is found
    pub finds_cycle : (size : ℕ) (r : Option ℕ) → T.size ≡ size → LowestBelow size (RootReturns rows) r → MatchOption r (NoCycle T told) (Least (ComesBack T told))
    finds_cycle size None is none = none_back (λ p here w. none p (omega arith) w)
    finds_cycle size (Some p) is (here, w, low) = lowest_back p (omega arith) w low
