-- A table with a new hole for each name at a higher place has the parts, the links and the joined names of the table, and those misnamed places that are not higher. Assumes nothing.
use Rattle.std.proofs.Common.{◌≡◌, ℕ, ◌+◌, ◌<◌, ◌≤◌, Bool, ltb, ◌≢◌, ◌⊎◌, List, sym, refl, ap, ◌∙◌, subst₂, inl, inr, arith}
use Rattle.std.proofs.lemmas.Bool.{cond_both, ltb-true, ltb-false}
use Rattle.recipe.specs.Common.{In}
use Rattle.recipe.specs.Fillings.{Pair}
use Rattle.recipe.specs.Links.{Differ, kind_of}
use Rattle.recipe.specs.Recipes.{Part}
use Rattle.recipe.specs.Tables.{Form, Table, parts}
use Rattle.recipe.specs.Tells.{NoClash, NoCycle, name_as_hole, names_as_holes}
use Rattle.recipe.proofs.Shapes.{differ_no_holes}
use Rattle.closure.specs.Causes.{Misnamed}
use Rattle.closure.specs.Decision.{HolesBelow, WellFormed}
use Rattle.closure.proofs.SameParts.{SameParts, well_formed_over, linked_over, no_cycle_over, misnamed_name, misnamed_over}

-- a form at the place q and what it is then: itself, where it is no name at a higher place than p, or else a new hole
pub data AsHole {L : Type 0} (p q : ℕ) : Form L → Form L → Type 0 where
  as_was : {f : Form L} → ((x : ℕ) → f ≡ Form.name x → q ≤ p) → AsHole p q f f
  new_hole : {x : ℕ} → p < q → AsHole p q (Form.name x) (Form.hole (512 + q))

pub as_hole : {L : Type 0} (p q : ℕ) (f : Form L) → AsHole p q f (name_as_hole p q f)
as_hole p q (Form.name x) = cond_both (ltb p q) (Form.hole (512 + q)) (Form.name x) (AsHole p q (Form.name x)) (λ h. AsHole.new_hole (ltb-true p q h)) (λ h. AsHole.as_was (λ y e. ltb-false p q h))
as_hole p q f = AsHole.as_was (λ x e. cc)

module _ {L : Type 0} {p q : ℕ} where
  parts_as : {f g : Form L} → AsHole p q f g → parts f ≡ parts g
  parts_as (AsHole.as_was up) = refl
  parts_as (AsHole.new_hole h) = refl

  -- a form with parts keeps its kind
  kind_as : {f g : Form L} → AsHole p q f g → (y : Part ℕ) → In y (parts f) → kind_of f ≡ kind_of g
  kind_as (AsHole.as_was up) y i = refl
  kind_as (AsHole.new_hole h) y i = absurd i

  -- a form that is no hole then is as it was, a hole is an old or a new one, and a name stands at p or lower
  pub solid_as : {f g : Form L} → AsHole p q f g → kind_of g ≢ 3 → f ≡ g
  solid_as (AsHole.as_was up) n = refl
  solid_as (AsHole.new_hole h) n = absurd (n refl)

  hole_as : {f g : Form L} {h : ℕ} → AsHole p q f g → g ≡ Form.hole h → (f ≡ Form.hole h) ⊎ (h ≡ 512 + q)
  hole_as (AsHole.as_was up) e = inl e
  hole_as (AsHole.new_hole h) e = inr cc

  name_as : {f g : Form L} {x : ℕ} → AsHole p q f g → g ≡ Form.name x → (f ≡ Form.name x) × (q ≤ p)
  name_as {x = x} (AsHole.as_was up) e = (e, up x e)
  name_as (AsHole.new_hole h) e = cc

  -- a name at p or lower stays
  name_stays : {f g : Form L} {x : ℕ} → q ≤ p → AsHole p q f g → f ≡ Form.name x → g ≡ Form.name x
  name_stays low (AsHole.as_was up) e = e
  name_stays low (AsHole.new_hole h) e = absurd (omega arith)

module _ {L : Type 0} (p : ℕ) {T : Table L} where
  holes_over : SameParts T (names_as_holes p T)
  holes_over = record { size = refl; at = λ q. parts_as (as_hole p q (T.form q)); kinds = λ q y. kind_as (as_hole p q (T.form q)) y; binds = λ q a c e. ap (name_as_hole p q) e; holes = λ q r h d e. inr (h, ap (name_as_hole p q) d, ap (name_as_hole p r) e) }

  -- what can be matched in a table can be with names as holes
  pub holes_well_formed : {m : ℕ} {pairs : List Pair} → WellFormed T m pairs → WellFormed (names_as_holes p T) m pairs
  holes_well_formed = well_formed_over holes_over (λ q e. ap (name_as_hole p q) e) (λ q x e. (name_as (as_hole p q (T.form q)) e).0)

  module _ (holes : HolesBelow T) where
    -- places of one hole then are of one hole, or are one place
    holes_back : SameParts (names_as_holes p T) T
    holes_back = record {
      size = refl;
      at = λ q. sym (parts_as (as_hole p q (T.form q)));
      kinds = λ q y i. sym (kind_as (as_hole p q (T.form q)) y (rw (parts_as (as_hole p q (T.form q))) i));
      binds = λ q a c e. solid_as (as_hole p q (T.form q)) (λ k. let bind : 4 ≡ 3 = ap kind_of (sym e) ∙ k in omega arith) ∙ e;
      holes = λ q r h d e. elim (hole_as (as_hole p q (T.form q)) d) [
        | inl old ↦ elim (hole_as (as_hole p r (T.form r)) e) [ inl also ↦ inr (h, old, also) | inr new ↦ let low = holes q h old in absurd (omega arith) ]
        | inr new ↦ elim (hole_as (as_hole p r (T.form r)) e) [ inl old ↦ let low = holes r h old in absurd (omega arith) | inr also ↦ inl (omega arith) ]
      ];
    }

    module _ {pairs : List Pair} where
      pub holes_no_clash : {same : L → L → Bool} → NoClash same T pairs → NoClash same (names_as_holes p T) pairs
      holes_no_clash {same = same} none q r c =
          let (n, k) = differ_no_holes c.differ in
          none q r (record { linked = linked_over holes_back c.linked; differ = subst₂ (Differ same) (sym (solid_as (as_hole p q (T.form q)) n)) (sym (solid_as (as_hole p r (T.form r)) k)) c.differ })

      pub holes_no_cycle : NoCycle T pairs → NoCycle (names_as_holes p T) pairs
      holes_no_cycle = no_cycle_over holes_over holes_back

      -- the misnamed places are those at p or lower
      pub misnamed_stays : {m q : ℕ} → q ≤ p → Misnamed T m pairs q → Misnamed (names_as_holes p T) m pairs q
      misnamed_stays low = misnamed_over holes_over holes_back (λ r x h. name_stays (omega arith) (as_hole p r (T.form r)))

      pub misnamed_back : {m q : ℕ} → Misnamed (names_as_holes p T) m pairs q → (q ≤ p) × Misnamed T m pairs q
      misnamed_back {q = q} w =
          ((name_as (as_hole p q (T.form q)) (misnamed_name w).1).1, misnamed_over holes_back holes_over (λ r x h e. (name_as (as_hole p r (T.form r)) e).0) w)
