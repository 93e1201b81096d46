-- The scope of a place, read by climbing from holder to holder in the words. Assumes nothing.
use Rattle.std.proofs.Common.{◌≡◌, ℕ, suc, ◌+◌, ◌<◌, ◌≤◌, ◌≢◌, List, [], ◌∷◌, length, true, false, Some, None, Option, refl, sym, ap, ◌∙◌, inl, inr, arith}
use Rattle.std.proofs.lemmas.Bool.{true≢false}
use Rattle.std.proofs.lemmas.Option.{none-some}
use Rattle.std.specs.List.{slice_get}
use Rattle.std.specs.Option.{is_some, option_map}
use Rattle.recipe.specs.Common.{In}
use Rattle.recipe.specs.Recipes.{Part}
use Rattle.recipe.specs.Scopes.{Scope, extended, inner}
use Rattle.recipe.specs.Tables.{Form, Holder, Table, depth, holder, parts, scope, scope_under}
use Rattle.recipe.proofs.Firsts.{not_some}
use Rattle.recipe.proofs.Holders.{holder_tells, scope_step}
use Rattle.recipe.proofs.InnerNumbers.{inner_first, inner_later, inner_nothing}
use Rattle.nodes.specs.HoldersWritten.{HoldersWritten, written_holder}
use Rattle.nodes.specs.NameSteps.{binder_of_form}
use Rattle.nodes.specs.Records.{written, written_form}
use Rattle.nodes.proofs.FirstRows.{form_written}

-- a part stands under the binder that the form is, or under none
under_name : (f : Form ℕ) (x : Part ℕ) → In x (parts f) → x.under ≡ binder_of_form f
under_name Form.nil x i = absurd i
under_name (Form.leaf l) x i = absurd i
under_name (Form.name n) x i = absurd i
under_name (Form.hole h) x i = absurd i
under_name (Form.bind a c) x (inl e) = rw e refl
under_name (Form.bind a c) x (inr i) = absurd i
under_name (Form.call c d) x (inl e) = rw e refl
under_name (Form.call c d) x (inr (inl e)) = rw e refl
under_name (Form.call c d) x (inr (inr i)) = absurd i

module _ (n : ℕ) (ws : List ℕ) where
  abbrev T : Table ℕ
  T = written n ws

  -- a holder is lower, and the scope below it is its own, with its name if it is a binder
  holder_scope : (p : ℕ) (h : Holder) → p < n → holder T p ≡ Some h → (h.place < p) × (scope T p ≡ extended (binder_of_form (written_form ws h.place)) (scope T h.place))
  holder_scope p h low e =
      let (q, less, x, i, is, by) = holder_tells T p p h e in
      let under : h.under ≡ binder_of_form (T.form q) = ap (λ g. g.under) by ∙ under_name (T.form q) x i in
      let place : q ≡ h.place = sym (ap (λ g. g.place) by) in
      let form : T.form q ≡ written_form ws h.place = form_written n ws q (omega arith) ∙ ap (written_form ws) place in (
        rw (sym place) less,
        scope_step T p ∙ ap (scope_under (scope T)) e ∙ ap (λ o. extended o (scope T h.place)) (under ∙ ap binder_of_form form),
      )

  module _ (holders : HoldersWritten n ws) where
    -- one step of `held_scope`
    step_by : (p h : ℕ) (o : Option Holder) → p < n → holder T p ≡ o → option_map (λ g. g.place) o ≡ Some h → (h < p) × (scope T p ≡ extended (binder_of_form (written_form ws h)) (scope T h))
    step_by p h None low e at = absurd (none-some h at)
    step_by p h (Some g) low e at = let is : g.place ≡ h = cc in rw (sym is) (holder_scope p g low e)

    -- the same, by the holder that the words have
    pub held_scope : (p h : ℕ) → p < n → written_holder ws p ≡ Some h → (h < p) × (scope T p ≡ extended (binder_of_form (written_form ws h)) (scope T h))
    held_scope p h low e = step_by p h (holder T p) low refl (sym (holders p low) ∙ e)

    -- one step of `top_scope`
    top_by : (p : ℕ) (o : Option Holder) → holder T p ≡ o → option_map (λ g. g.place) o ≡ None → scope T p ≡ []
    top_by p None e at = scope_step T p ∙ ap (scope_under (scope T)) e
    top_by p (Some g) e at = absurd (none-some g.place (sym at))

    -- a place without a holder has no names in its scope
    pub top_scope : (p : ℕ) → p < n → written_holder ws p ≡ None → scope T p ≡ []
    top_scope p low e = top_by p (holder T p) refl (sym (holders p low) ∙ e)

-- so many added to a number, if there is one
abbrev plus : ℕ → Option ℕ → Option ℕ
plus k o = option_map (λ i. k + i) o

plus_one : (k : ℕ) (o : Option ℕ) → plus k (option_map suc o) ≡ plus (k + 1) o
plus_one k None = refl
plus_one k (Some i) = ap Some (omega arith)

-- so many binders stand between p and the place `below` that is reached, none of which has the name x
pub record Counted (T : Table ℕ) (p x below passed : ℕ) : Type 0 where
  pub few : passed + length (scope T below) ≤ 64
  pub same : inner (scope T p) x ≡ option_map (λ i. passed + i) (inner (scope T below) x)

-- what is left of the scope of p at the place `below` that is reached has at `left` the name that the scope has at k
pub record Reached (T : Table ℕ) (p k below left : ℕ) : Type 0 where
  pub same : slice_get (scope T p) k ≡ slice_get (scope T below) left

-- a scope is one longer below a binder
longer_by : (o : Option ℕ) (Φ : Scope) → is_some o ≡ true → length (extended o Φ) ≡ suc (length Φ)
longer_by None Φ e = absurd (true≢false (sym e))
longer_by (Some a) Φ e = refl

-- so many binders stand between p and the place `below` that is reached
pub record Passed (T : Table ℕ) (p below count : ℕ) : Type 0 where
  pub few : depth T p ≤ 64
  pub same : depth T p ≡ count + depth T below

module _ (n : ℕ) (ws : List ℕ) where
  module _ (holders : HoldersWritten n ws) (p below h : ℕ) (low : below < n) (held : written_holder ws below ≡ Some h) where
    -- the scope of the place, if its holder is a binder, and if it is none
    bound_scope : (a : ℕ) → binder_of_form (written_form ws h) ≡ Some a → scope (written n ws) below ≡ a ∷ scope (written n ws) h
    bound_scope a e = (held_scope n ws holders below h low held).1 ∙ ap (λ o. extended o (scope (written n ws) h)) e

    free_scope : binder_of_form (written_form ws h) ≡ None → scope (written n ws) below ≡ scope (written n ws) h
    free_scope e = (held_scope n ws holders below h low held).1 ∙ ap (λ o. extended o (scope (written n ws) h)) e

    -- a step from a place to its holder, which is a binder of the name, of another, or none
    pub counted_found : (x passed a : ℕ) → binder_of_form (written_form ws h) ≡ Some a → a ≡ x → Counted (written n ws) p x below passed → Some passed ≡ inner (scope (written n ws) p) x
    counted_found x passed a e is at =
        let first : inner (scope (written n ws) below) x ≡ Some 0 = ap (λ Φ. inner Φ x) (bound_scope a e) ∙ inner_first (scope (written n ws) h) a x is in
        sym (at.same ∙ ap (plus passed) first ∙ ap Some (omega arith))

    pub counted_past : (x passed a : ℕ) → binder_of_form (written_form ws h) ≡ Some a → a ≢ x → Counted (written n ws) p x below passed → Counted (written n ws) p x h (passed + 1)
    counted_past x passed a e other at =
        let long : length (scope (written n ws) below) ≡ suc (length (scope (written n ws) h)) = ap length (bound_scope a e) in
        let few = at.few in
        record {
          few = omega arith;
          same = at.same ∙ ap (plus passed) (ap (λ Φ. inner Φ x) (bound_scope a e) ∙ inner_later (scope (written n ws) h) a x other) ∙ plus_one passed (inner (scope (written n ws) h) x);
        }

    pub counted_by : (x passed : ℕ) → binder_of_form (written_form ws h) ≡ None → Counted (written n ws) p x below passed → Counted (written n ws) p x h passed
    counted_by x passed e at =
        let long : length (scope (written n ws) below) ≡ length (scope (written n ws) h) = ap length (free_scope e) in
        let few = at.few in
        record { few = omega arith; same = at.same ∙ ap (λ Φ. plus passed (inner Φ x)) (free_scope e) }

    pub passed_past : (count : ℕ) → is_some (binder_of_form (written_form ws h)) ≡ true → Passed (written n ws) p below count → Passed (written n ws) p h (count + 1)
    passed_past count e at =
        let long : depth (written n ws) below ≡ suc (depth (written n ws) h) = ap length (held_scope n ws holders below h low held).1 ∙ longer_by _ (scope (written n ws) h) e in
        let same = at.same in
        record { few = at.few; same = omega arith }

    pub passed_by : (count : ℕ) → is_some (binder_of_form (written_form ws h)) ≡ false → Passed (written n ws) p below count → Passed (written n ws) p h count
    passed_by count e at = record { few = at.few; same = at.same ∙ ap (λ Φ. count + length Φ) (free_scope (not_some _ e)) }

    pub reached_found : (k left a : ℕ) → binder_of_form (written_form ws h) ≡ Some a → left ≡ 0 → Reached (written n ws) p k below left → Some a ≡ slice_get (scope (written n ws) p) k
    reached_found k left a e is at = sym (at.same ∙ ap (slice_get (scope (written n ws) below)) is ∙ ap (λ Φ. slice_get Φ 0) (bound_scope a e))

    pub reached_past : (k left rest a : ℕ) → binder_of_form (written_form ws h) ≡ Some a → left ≡ suc rest → Reached (written n ws) p k below left → Reached (written n ws) p k h rest
    reached_past k left rest a e is at = record {
      same = at.same ∙ ap (slice_get (scope (written n ws) below)) is ∙ ap (λ Φ. slice_get Φ (suc rest)) (bound_scope a e);
    }

    pub reached_by : (k left : ℕ) → binder_of_form (written_form ws h) ≡ None → Reached (written n ws) p k below left → Reached (written n ws) p k h left
    reached_by k left e at = record { same = at.same ∙ ap (λ Φ. slice_get Φ left) (free_scope e) }

  module _ (holders : HoldersWritten n ws) (p below : ℕ) (low : below < n) (top : written_holder ws below ≡ None) where
    -- the end at a place without a holder
    pub counted_none : (x passed : ℕ) → Counted (written n ws) p x below passed → None ≡ inner (scope (written n ws) p) x
    counted_none x passed at =
        sym (at.same ∙ ap (plus passed) (ap (λ Φ. inner Φ x) (top_scope n ws holders below low top) ∙ inner_nothing x))

    pub passed_all : (count : ℕ) → Passed (written n ws) p below count → count ≡ depth (written n ws) p
    passed_all count at =
        let top : depth (written n ws) below ≡ 0 = ap length (top_scope n ws holders below low top) in
        let same = at.same in
        omega arith

    pub reached_none : (k left : ℕ) → Reached (written n ws) p k below left → None ≡ slice_get (scope (written n ws) p) k
    reached_none k left at = sym (at.same ∙ ap (λ Φ. slice_get Φ left) (top_scope n ws holders below low top))
