-- The heights in the scope of a place, from those in the scope of its holder. Assumes nothing.
use Rattle.std.proofs.Common.{◌≡◌, ℕ, suc, ◌<◌, List, [], ◌∷◌, length, Some, None, refl, ap, ◌∙◌, inl, arith}
use Rattle.recipe.specs.Recipes.{inside}
use Rattle.recipe.specs.Scopes.{extended}
use Rattle.recipe.specs.Tables.{Form, Table, scope}
use Rattle.recipe.specs.Validity.{Ordered}
use Rattle.nodes.specs.HoldersWritten.{HoldersWritten, written_holder}
use Rattle.nodes.specs.Heights.{FewNames, HasHeights}
use Rattle.nodes.specs.NameSteps.{binder_of_form}
use Rattle.nodes.specs.Records.{written, written_form}
use Rattle.nodes.specs.declared.heights.Heights.{Heights}
use Rattle.nodes.proofs.FirstRows.{form_written}
use Rattle.nodes.proofs.ScopesClimbed.{held_scope, top_scope}

-- a form with a binder's name is a bind
bind_with : (f : Form ℕ) (a : ℕ) → binder_of_form f ≡ Some a → (c : ℕ) × (f ≡ Form.bind a c)
bind_with Form.nil a e = absurd cc
bind_with (Form.leaf l) a e = absurd cc
bind_with (Form.name x) a e = absurd cc
bind_with (Form.hole h) a e = absurd cc
bind_with (Form.bind b c) a e = (c, let same : b ≡ a = cc in rw same refl)
bind_with (Form.call c d) a e = absurd cc

module _ (n : ℕ) (ws : List ℕ) (holders : HoldersWritten n ws) (p : ℕ) (low : p < n) where
  abbrev T : Table ℕ
  T = written n ws

  -- a place without a holder
  pub top_heights : (heights : Heights) → written_holder ws p ≡ None → HasHeights [] heights → HasHeights (scope T p) heights
  top_heights heights e has = rw (top_scope n ws holders p low e) has

  module _ (h : ℕ) (held : written_holder ws p ≡ Some h) where
    pub holder_lower : h < p
    holder_lower = (held_scope n ws holders p h low held).0

    above : scope T p ≡ extended (binder_of_form (written_form ws h)) (scope T h)
    above = (held_scope n ws holders p h low held).1

    -- a holder that is no bind
    pub same_heights : (heights : Heights) → binder_of_form (written_form ws h) ≡ None → HasHeights (scope T h) heights → HasHeights (scope T p) heights
    same_heights heights e has = rw (above ∙ ap (λ o. extended o (scope T h)) e) has

    -- a holder that is a bind
    module _ (a : ℕ) (bound : binder_of_form (written_form ws h) ≡ Some a) where
      below : scope T p ≡ a ∷ scope T h
      below = above ∙ ap (λ o. extended o (scope T h)) bound

      pub bound_few : FewNames T → a < 64
      bound_few few =
          let less = holder_lower in
          let (c, form) = bind_with (written_form ws h) a bound in
          few.binders h a (inside a c) (rw (form_written n ws h (omega arith) ∙ form) (inl refl)) refl

      pub bound_shallow : (heights : Heights) → Ordered T → HasHeights (scope T h) heights → heights.depth < 64
      bound_shallow heights ordered has =
          let deep = ordered.shallow p low in
          let long : length (scope T p) ≡ suc (length (scope T h)) = ap length below in
          let depth = has.depth in
          omega arith

      pub more_heights : (heights : Heights) → HasHeights (a ∷ scope T h) heights → HasHeights (scope T p) heights
      more_heights heights has = rw below has
