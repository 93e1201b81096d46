-- The places that a refusal carries are found class by class, and one of the four answers is always right. Assumes nothing.
use Rattle.std.proofs.Common.{◌≡◌, ℕ, suc, ◌<◌, ◌≤◌, Bool, ◌⊎◌, ◌↔◌, List, Ok, Err, Result, refl, ◌∙◌, inl, inr, arith}
use Rattle.recipe.specs.Common.{In, Least}
use Rattle.recipe.specs.Fillings.{Pair}
use Rattle.recipe.specs.Links.{Linked, Clash, ComesBack, Reaches}
use Rattle.recipe.specs.Recipes.{Part}
use Rattle.recipe.specs.Sameness.{Sameness}
use Rattle.recipe.specs.Tables.{Table, parts}
use Rattle.recipe.specs.Tells.{Decided, NoClash, NoCycle}
use Rattle.recipe.specs.declared.refusals.Refusal.{Refusal}
use Rattle.recipe.proofs.Shapes.{differ_itself, differ_no_holes}
use Rattle.closure.specs.Causes.{CausesExact, ClashFound, CycleFound, LowestBack, LowestNonHole, Misnamed}
use Rattle.closure.specs.Decision.{Consistent, HolesBelow, WellFormed}
use Rattle.closure.proofs.Differing.{differ_decided, differ_third}
use Rattle.closure.proofs.Forms.{holder_inside}
use Rattle.closure.proofs.Known.{Known, known_same, known_both, known_among, least_below, least_or_none, least_same, some_or_none}
use Rattle.closure.proofs.LinksDecided.{along, linked_decided, linked_within, reaches_decided, solid_or_open}
use Rattle.closure.proofs.FillingExists.{decision_exact}
use Rattle.closure.proofs.Misnaming.{misnamed_decided, misnamed_never, misnamed_within, named_filled, names_found}

module _ {L : Type 0} {T : Table L} {m : ℕ} {pairs : List Pair} (ready : WellFormed T m pairs) where
  -- a place with a way to another place is that place, or a place of the table
  reaches_within : {p q : ℕ} → Reaches T pairs p q → (p ≡ q) ⊎ (p < T.size)
  reaches_within Reaches.here = inl refl
  reaches_within (Reaches.to_linked l r) = elim (linked_within ready l) [ inl e ↦ elim (reaches_within r) [ inl d ↦ inl (e ∙ d) | inr h ↦ inr (omega arith) ] | inr h ↦ inr h.0 ]
  reaches_within (Reaches.to_part {p = p} x i r) = inr (holder_inside ready p x i)

  back_within : (p : ℕ) → ComesBack T pairs p → p < T.size
  back_within p b =
      let h = holder_inside ready b.holder b.part b.down in
      elim (reaches_within b.there) [ inl e ↦ omega arith | inr k ↦ k ]

  back_decided : (p : ℕ) → Known (ComesBack T pairs p)
  back_decided p =
      known_same
      (λ f. record { holder = f.0; part = f.1.1.0; there = f.1.0; down = f.1.1.1; return = f.1.1.2 })
      (λ b. (b.holder, (b.there, (b.part, b.down, b.return))))
      (some_or_none
      (λ h. Reaches T pairs p h × ((y : Part ℕ) × In y (parts (T.form h)) × Reaches T pairs y.at p))
      (λ h. known_both (reaches_decided ready p h) (known_among (parts (T.form h)) (λ y. reaches_decided ready y.at p)))
      T.size
      (λ h f. holder_inside ready h f.1.0 f.1.1))

  -- what comes back does so from each linked place
  back_linked : {p q : ℕ} → Linked T pairs p q → ComesBack T pairs p → ComesBack T pairs q
  back_linked l b =
      record { holder = b.holder; part = b.part; there = Reaches.to_linked (Linked.back l) b.there; down = b.down; return = along ready b.return (Reaches.to_linked l Reaches.here) }

  lowest_back : (p : ℕ) → ComesBack T pairs p → (k : ℕ) × (k ≤ p) × LowestBack T pairs k
  lowest_back p b =
      elim (least_below (Linked T pairs p) (linked_decided ready p) (suc p)) [
        | inl f ↦ (f.0, f.2.lowest p Linked.itself, record { back = back_linked f.2.has b; lowest = λ q l. f.2.lowest q (Linked.chain f.2.has l) })
        | inr none ↦ absurd (none p (omega arith) Linked.itself)
      ]

  cycle_found : (p : ℕ) → Least (ComesBack T pairs) p ↔ CycleFound T pairs p
  cycle_found p =
      let both = least_same (LowestBack T pairs) (ComesBack T pairs) (λ k b. b.back) lowest_back p in
      (λ l. let f = both.1 l in record { back = f.has; first = f.lowest }, λ f. both.0 (record { has = f.back; lowest = f.first }))

  module _ {same : L → L → Bool} (laws : Sameness same) where
    clash_within : (p q : ℕ) → Clash same T pairs p q → (p < T.size) × (q < T.size)
    clash_within p q c = elim (linked_within ready c.linked) [ inl e ↦ absurd (differ_itself laws (T.form q) (rw e at c.differ)) | inr h ↦ h ]

    clash_decided : (p q : ℕ) → Known (Clash same T pairs p q)
    clash_decided p q =
        known_same (λ f. record { linked = f.0; differ = f.1 }) (λ c. (c.linked, c.differ))
        (known_both (linked_decided ready p q) (differ_decided (T.form p) (T.form q)))

    -- a lowest place that is no hole, of a class with a clash
    record LowestClash (r : ℕ) : Type 0 where
      non_hole : LowestNonHole T pairs r
      other : ℕ
      clash : Clash same T pairs r other

    lowest_clash : (p : ℕ) → ((q : ℕ) × Clash same T pairs p q) → (r : ℕ) × (r ≤ p) × LowestClash r
    lowest_clash p f =
        let c = f.1 in
        let n = (differ_no_holes c.differ).0 in
        elim (solid_or_open ready p) [
          | inl (r, s) ↦
              let non_hole : LowestNonHole T pairs r = record { no_hole = s.has.1; lowest = λ q l n. s.lowest q (Linked.chain s.has.0 l, n) } in (
                r,
                s.lowest p (Linked.itself, n),
                elim (differ_third laws (T.form r) s.has.1 c.differ) [
                  | inl d ↦ record { non_hole = non_hole; other = p; clash = record { linked = Linked.back s.has.0; differ = d } }
                  | inr d ↦ record { non_hole = non_hole; other = f.0; clash = record { linked = Linked.chain (Linked.back s.has.0) c.linked; differ = d } }
                ],
              )
          | inr none ↦ absurd (n (none p Linked.itself))
        ]

    clash_found : (a b : ℕ) → (Least (λ p. (q : ℕ) × Clash same T pairs p q) a × Least (Clash same T pairs a) b) ↔ ClashFound same T pairs a b
    clash_found a b =
        let both = least_same LowestClash (λ p. (q : ℕ) × Clash same T pairs p q) (λ r s. (s.other, s.clash)) lowest_clash a in (
          λ l.
              let f = both.1 l.0 in
              record { non_hole = f.has.non_hole; partner = l.1; first = λ r q s c. f.lowest r (record { non_hole = s; other = q; clash = c }) },
          λ f. (both.0 (record { has = record { non_hole = f.non_hole; other = b; clash = f.partner.has }; lowest = λ r s. f.first r s.other s.non_hole s.clash }), f.partner),
        )

    -- whether the closures are consistent can be decided
    least_clash : ((a : ℕ) × Least (λ p. (q : ℕ) × Clash same T pairs p q) a) ⊎ NoClash same T pairs
    least_clash =
        elim (least_or_none (λ p. (q : ℕ) × Clash same T pairs p q) (λ p. some_or_none (Clash same T pairs p) (clash_decided p) T.size (λ q c. (clash_within p q c).1)) T.size (λ p f. (clash_within p f.0 f.1).0)) [ inl f ↦ inl f | inr none ↦ inr (λ p q c. none p (q, c)) ]

    consistent_named : NoClash same T pairs → NoCycle T pairs → Known (Consistent same T m pairs)
    consistent_named apart acyclic =
        elim (least_or_none (Misnamed T m pairs) (misnamed_decided ready) T.size (misnamed_within ready)) [
          | inl f ↦ inr (λ c. misnamed_never ready laws f.1.has ((decision_exact laws ready).1 c))
          | inr none ↦ inl ((decision_exact laws ready).0 (named_filled ready laws apart acyclic none))
        ]

    consistent_apart : NoClash same T pairs → Known (Consistent same T m pairs)
    consistent_apart apart =
        elim (least_or_none (ComesBack T pairs) back_decided T.size back_within) [ inl f ↦ inr (λ c. c.no_cycle f.0 f.1.has) | inr none ↦ consistent_named apart none ]

    pub consistent_decided : Known (Consistent same T m pairs)
    consistent_decided = elim least_clash [ inl f ↦ inr (λ c. c.no_clash f.0 f.1.has.0 f.1.has.1) | inr apart ↦ consistent_apart apart ]

    module _ (holes : HolesBelow T) where
      answered_acyclic : NoClash same T pairs → NoCycle T pairs → (r : Result (Unit {0}) Refusal) × Decided same T pairs r
      answered_acyclic apart acyclic =
          elim (least_or_none (Misnamed T m pairs) (misnamed_decided ready) T.size (misnamed_within ready)) [
            | inl f ↦ (Err (Refusal.NamesDisagree f.0), Decided.names (misnamed_never ready laws f.1.has) apart acyclic ((names_found laws ready holes apart acyclic f.0).1 f.1))
            | inr none ↦ (Ok tt, Decided.accepted (named_filled ready laws apart acyclic none) apart acyclic)
          ]

      answered_apart : NoClash same T pairs → (r : Result (Unit {0}) Refusal) × Decided same T pairs r
      answered_apart apart =
          elim (least_or_none (ComesBack T pairs) back_decided T.size back_within) [
            | inl f ↦ (Err (Refusal.Cyclic f.0), Decided.cyclic (λ filling. ((decision_exact laws ready).0 filling).no_cycle f.0 f.1.has) apart f.1)
            | inr none ↦ answered_acyclic apart none
          ]

      answered : (r : Result (Unit {0}) Refusal) × Decided same T pairs r
      answered =
          elim least_clash [
            | inl f ↦ elim (least_or_none (Clash same T pairs f.0) (clash_decided f.0) T.size (λ q c. (clash_within f.0 q c).1)) [
              | inl g ↦ (Err (Refusal.Clash f.0 g.0), Decided.clash (λ filling. ((decision_exact laws ready).0 filling).no_clash f.0 g.0 g.1.has) f.1 g.1)
              | inr none ↦ absurd (none f.1.has.0 f.1.has.1)
            ]
            | inr apart ↦ answered_apart apart
          ]

pub causes_exact : {L : Type 0} (same : L → L → Bool) → Sameness same → CausesExact same
causes_exact same laws T m pairs ready = record {
  clash = clash_found ready laws;
  cycle = cycle_found ready;
  names = names_found laws ready;
  answered = answered ready laws;
}
