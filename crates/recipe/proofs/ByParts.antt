-- Valid tables are read by parts. Assumes nothing.
use Rattle.std.proofs.Common.{◌≡◌, ℕ, ◌<◌, ◌⊎◌, [], Some, None, Option, refl, ap, ◌∙◌, subst, inl, inr}
use Rattle.recipe.specs.Common.{In}
use Rattle.recipe.specs.Recipes.{Part}
use Rattle.recipe.specs.Scopes.{extended}
use Rattle.recipe.specs.TableLaws.{Held, TableLaws}
use Rattle.recipe.specs.Tables.{Table, Holder, Root, holder, holder_below, parts, scope, scope_under, table_of}
use Rattle.recipe.specs.Validity.{Ordered}
use Rattle.recipe.proofs.Filled.{filled_layer, valid_rising}
use Rattle.recipe.proofs.Holders.{holder_some, holder_tells, part_holder, scope_step}

module _ {L : Type 0} (T : Table L) where
  -- a root has no holder
  root_free : (p : ℕ) (o : Option Holder) → Root T p → holder T p ≡ o → scope_under (scope T) o ≡ []
  root_free p None root e = refl
  root_free p (Some h) root e = let (q, low, x, i, at, by) = holder_tells T p p h e in absurd (root.1 q x i at)

  pub root_scope : (p : ℕ) → Root T p → scope T p ≡ []
  root_scope p root = scope_step T p ∙ root_free p (holder T p) root refl

  module _ (ordered : Ordered T) where
    pub part_scope : (p : ℕ) (x : Part ℕ) → In x (parts (T.form p)) → scope T x.at ≡ extended x.under (scope T p)
    part_scope p x i = scope_step T x.at ∙ ap (scope_under (scope T)) (part_holder T ordered p x i)

    by_holder : (p : ℕ) (o : Option Holder) → p < T.size → holder T p ≡ o → Root T p ⊎ Held T p
    by_holder p None within e =
        inl (within, λ q x i at. holder_some T p q x (subst (λ n. q < n) at (ordered.rising q x i).0) i (ap (holder_below T p) at ∙ e))
    by_holder p (Some h) within e = let (q, low, x, i, at, by) = holder_tells T p p h e in inr (record { holder = q; part = x; down = i; there = at })

pub table_laws_lem : {L : Type 0} → TableLaws L
table_laws_lem places ls v = record {
  text = λ θ. filled_layer (table_of places ls) θ (valid_rising places ls v);
  root = root_scope (table_of places ls);
  part = part_scope (table_of places ls) v.ordered;
  either = λ p within. by_holder (table_of places ls) v.ordered p (holder (table_of places ls) p) within refl;
}
