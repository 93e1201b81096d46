-- Misnamed places: whether a place is one, that there is one where a place is spoiled, and that matching fails from the lowest on. Assumes nothing.
use Rattle.std.proofs.Common.{◌≡◌, ℕ, suc, ◌<◌, ◌≤◌, Bool, ◌≢◌, ◌⊎◌, ◌↔◌, List, subst, inl, inr, arith}
use Rattle.std.proofs.lemmas.Bool.{cases_eq, cases_order}
use Rattle.recipe.specs.Common.{Least}
use Rattle.recipe.specs.Fillings.{Pair, Satisfiable, Unsatisfiable}
use Rattle.recipe.specs.Links.{Linked}
use Rattle.recipe.specs.Sameness.{Sameness}
use Rattle.recipe.specs.Tables.{Form, Table}
use Rattle.recipe.specs.Tells.{FailsUpTo, NoClash, NoCycle, names_as_holes}
use Rattle.closure.specs.Closures.{Closure}
use Rattle.closure.specs.Causes.{Misnamed}
use Rattle.closure.specs.Decision.{HolesBelow, Spoiled, SpoiledAmong, WellFormed}
use Rattle.closure.specs.Names.{Node, Joined}
use Rattle.closure.proofs.Forms.{known_name, form_inside}
use Rattle.closure.proofs.Known.{Known, known_same, known_both, known_either, known_not, known_below, least_below, least_same, some_or_none}
use Rattle.closure.proofs.LinksDecided.{joined_decided, linked_decided}
use Rattle.closure.proofs.MatchedNames.{joined_low}
use Rattle.closure.proofs.FillingExists.{decision_exact}
use Rattle.closure.proofs.NamesAsHoles.{holes_no_clash, holes_no_cycle, holes_well_formed, misnamed_back, misnamed_stays}
use Rattle.closure.proofs.SameParts.{misnamed_name}

module _ {L : Type 0} {T : Table L} {m : ℕ} {pairs : List Pair} where
  misnamed_spoiled : {p : ℕ} → Misnamed T m pairs p → Spoiled T m pairs p
  misnamed_spoiled (SpoiledAmong.gone e j) = SpoiledAmong.gone e j
  misnamed_spoiled (SpoiledAmong.double e n j) = SpoiledAmong.double e n j
  misnamed_spoiled (SpoiledAmong.apart d e h l n) = SpoiledAmong.apart d e tt l n

  -- of two places that are apart the higher is misnamed
  higher_misnamed : {p q x y : ℕ} → T.form p ≡ Form.name x → T.form q ≡ Form.name y → Linked T pairs p q → (Joined T m pairs (Node.name p x) (Node.name q y) → ⊥) → (k : ℕ) × Misnamed T m pairs k
  higher_misnamed {p = p} {q = q} {x = x} {y = y} d e l n =
      elim (cases_order p q) [
        | inl s ↦ let one : Node.name p x ≡ Node.name q y = cc in absurd (n (subst (Joined T m pairs (Node.name p x)) one Closure.itself))
        | inr (inl h) ↦ (q, SpoiledAmong.apart e d h (Linked.back l) (λ j. n (Closure.back j)))
        | inr (inr h) ↦ (p, SpoiledAmong.apart d e h l n)
      ]

  spoiled_misnamed : {p : ℕ} → Spoiled T m pairs p → (k : ℕ) × Misnamed T m pairs k
  spoiled_misnamed {p = p} (SpoiledAmong.gone e j) = (p, SpoiledAmong.gone e j)
  spoiled_misnamed {p = p} (SpoiledAmong.double e n j) = (p, SpoiledAmong.double e n j)
  spoiled_misnamed (SpoiledAmong.apart d e u l n) = higher_misnamed d e l n

module _ {L : Type 0} {T : Table L} {m : ℕ} {pairs : List Pair} (ready : WellFormed T m pairs) where
  -- the three cases of a misnamed place, as properties of its name
  abbrev Double : ℕ → ℕ → ℕ → Type 0
  Double p x y = (y ≢ x) × Joined T m pairs (Node.name p x) (Node.name p y)

  abbrev Apart : ℕ → ℕ → ℕ → Type 0
  Apart p x q = (q < p) × ((y : ℕ) × (T.form q ≡ Form.name y) × (Linked T pairs p q × (Joined T m pairs (Node.name p x) (Node.name q y) → ⊥)))

  abbrev Wrong : ℕ → ℕ → Type 0
  Wrong p x = Joined T m pairs (Node.name p x) Node.nowhere ⊎ (((y : ℕ) × Double p x y) ⊎ ((q : ℕ) × Apart p x q))

  misnamed_wrong : {p : ℕ} → Misnamed T m pairs p → (x : ℕ) × (T.form p ≡ Form.name x) × Wrong p x
  misnamed_wrong (SpoiledAmong.gone {x = x} e j) = (x, e, inl j)
  misnamed_wrong (SpoiledAmong.double {x = x} {y = y} e n j) = (x, e, inr (inl (y, (n, j))))
  misnamed_wrong (SpoiledAmong.apart {q = q} {x = x} {y = y} d e h l n) = (x, d, inr (inr (q, (h, (y, e, (l, n))))))

  wrong_misnamed : (p x : ℕ) → T.form p ≡ Form.name x → Wrong p x → Misnamed T m pairs p
  wrong_misnamed p x e (inl j) = SpoiledAmong.gone e j
  wrong_misnamed p x e (inr (inl d)) = SpoiledAmong.double e d.1.0 d.1.1
  wrong_misnamed p x e (inr (inr a)) = SpoiledAmong.apart e a.1.1.1 a.1.0 a.1.1.2.0 a.1.1.2.1

  -- a name that another is joined with is below m
  double_low : (p x y : ℕ) → Double p x y → y < m
  double_low p x y d = elim (joined_low ready (Closure.back d.1)) [ inl e ↦ absurd (d.0 (cc)) | inr h ↦ h ]

  wrong_decided : (p x : ℕ) → Known (Wrong p x)
  wrong_decided p x =
      known_either (joined_decided ready (Node.name p x) Node.nowhere)
      (known_either
      (some_or_none (Double p x) (λ y. known_both (known_not (cases_eq y x)) (joined_decided ready (Node.name p x) (Node.name p y))) m (double_low p x))
      (some_or_none (Apart p x)
      (λ q. known_both (known_below q p) (known_name (λ y. known_both (linked_decided ready p q) (known_not (joined_decided ready (Node.name p x) (Node.name q y)))) (T.form q)))
      p
      (λ q a. a.0)))

  pub misnamed_decided : (p : ℕ) → Known (Misnamed T m pairs p)
  misnamed_decided p = known_same (λ f. wrong_misnamed p f.0 f.1 f.2) misnamed_wrong (known_name (wrong_decided p) (T.form p))

  pub misnamed_within : (p : ℕ) → Misnamed T m pairs p → p < T.size
  misnamed_within p w =
      let (x, e) = misnamed_name w in
      form_inside ready p (λ n. cc)

  module _ {same : L → L → Bool} (laws : Sameness same) where
    -- a misnamed place leaves no filling, and without one there is a filling
    pub misnamed_never : {p : ℕ} → Misnamed T m pairs p → Unsatisfiable same T pairs
    misnamed_never {p = p} w filling = ((decision_exact laws ready).0 filling).no_spoiled p (misnamed_spoiled w)

    pub named_filled : NoClash same T pairs → NoCycle T pairs → ((p : ℕ) → Misnamed T m pairs p → ⊥) → Satisfiable same T pairs
    named_filled apart acyclic none =
        (decision_exact laws ready).1 (record { no_clash = apart; no_cycle = acyclic; no_spoiled = λ p s. let f = spoiled_misnamed s in none f.0 f.1 })

module _ {L : Type 0} {same : L → L → Bool} (laws : Sameness same) {T : Table L} {m : ℕ} {pairs : List Pair} (ready : WellFormed T m pairs) (holes : HolesBelow T) where
  -- matching fails from a misnamed place on
  misnamed_fails : (p : ℕ) → Misnamed T m pairs p → FailsUpTo same T pairs p
  misnamed_fails p w =
      record {
        named = misnamed_name w;
        never = misnamed_never (holes_well_formed p ready) laws (misnamed_stays p holes (omega arith) w);
      }

  module _ (apart : NoClash same T pairs) (acyclic : NoCycle T pairs) where
    none_fills : (p : ℕ) → ((q : ℕ) → q ≤ p → Misnamed T m pairs q → ⊥) → Satisfiable same (names_as_holes p T) pairs
    none_fills p none =
        named_filled (holes_well_formed p ready) laws
        (holes_no_clash p holes apart)
        (holes_no_cycle p holes acyclic)
        (λ q w. let b = misnamed_back p holes w in none q b.0 b.1)

    -- where it fails up to p, one of those places is misnamed
    fails_misnamed : (p : ℕ) → FailsUpTo same T pairs p → (k : ℕ) × (k ≤ p) × Misnamed T m pairs k
    fails_misnamed p fails =
        elim (least_below (Misnamed T m pairs) (misnamed_decided ready) (suc p)) [
          | inl f ↦ let h = f.1 in (f.0, omega arith, f.2.has)
          | inr none ↦ absurd (fails.never (none_fills p (λ q h. none q (omega arith))))
        ]

    pub names_found : (p : ℕ) → Least (FailsUpTo same T pairs) p ↔ Least (Misnamed T m pairs) p
    names_found p =
        let both = least_same (Misnamed T m pairs) (FailsUpTo same T pairs) misnamed_fails fails_misnamed p in
        (both.1, both.0)
