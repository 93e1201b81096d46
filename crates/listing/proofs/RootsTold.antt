-- The places that no record holds are the roots of the table. Assumes nothing.
use Rattle.std.proofs.Common.{◌≡◌, ℕ, zero, suc, ◌≢◌, false, nat_eq, List, [], ◌∷◌, length, Some, None, Option, refl, sym, ap, ◌∙◌, subst, eq-eqb, ne_eqb}
use Rattle.std.proofs.lemmas.Bool.{both_ways, or_from, or_parts}
use Rattle.std.specs.List.{slice_get}
use Rattle.recipe.specs.Common.{In}
use Rattle.recipe.specs.Marks.{parts_of}
use Rattle.recipe.specs.Recipes.{Part}
use Rattle.recipe.specs.Tables.{form_at, has_part, parts, table_of}
use Rattle.recipe.specs.declared.places.Place.{Place}
use Rattle.recipe.proofs.Faults.{none_passes, passes_none}
use Rattle.recipe.proofs.Marking.{parts_of_form}
use Rattle.listing.specs.Roots.{Roots, RootsBelow, held_in}

-- no record of a list holds p exactly where that at no index does
record_apart : (places : List Place) (p : ℕ) → held_in places p ≡ false → (q : ℕ) (x : Place) → slice_get places q ≡ Some x → has_part p x ≡ false
record_apart [] p free q x at = absurd cc
record_apart (y ∷ places) p free zero x at = let same : y ≡ x = cc in ap (has_part p) (sym same) ∙ (or_parts (has_part p y) _ free).0
record_apart (y ∷ places) p free (suc q) x at = record_apart places p (or_parts (has_part p y) _ free).1 q x at

all_apart : (places : List Place) (p : ℕ) → ((q : ℕ) (x : Place) → slice_get places q ≡ Some x → has_part p x ≡ false) → held_in places p ≡ false
all_apart [] p each = refl
all_apart (y ∷ places) p each = or_from (has_part p y) _ (each 0 y refl) (all_apart places p (λ q x at. each (suc q) x at))

module _ {L : Type 0} (places : List Place) (ls : List L) where
  -- so no part of a place is p
  part_apart : (p : ℕ) (o : Option Place) (x : Part ℕ) → ((y : Place) → o ≡ Some y → has_part p y ≡ false) → In x (parts (form_at ls o)) → x.at ≢ p
  part_apart p None x apart i e = absurd i
  part_apart p (Some y) x apart i e =
      both_ways _ (none_passes (λ z. nat_eq z.at p) (parts_of y) (apart y refl) x (subst (In x) (parts_of_form ls y) i)) (eq-eqb x.at p e)

  record_free : (p : ℕ) → ((q : ℕ) (x : Part ℕ) → In x (parts ((table_of places ls).form q)) → x.at ≢ p) → (q : ℕ) (y : Place) → slice_get places q ≡ Some y → has_part p y ≡ false
  record_free p apart q y at =
      passes_none (λ z. nat_eq z.at p) (parts_of y)
      (λ x i. ne_eqb x.at p (apart q x (rw at (subst (In x) (sym (parts_of_form ls y)) i))))

  pub roots_told : (rs : List ℕ) → RootsBelow places (length places) rs → Roots (table_of places ls) rs
  roots_told rs below = record {
    only = λ p. (
      λ root. (below.only p).0 (root.0, all_apart places p (record_free p root.1)),
      λ i. let h = (below.only p).1 i in (h.0, λ q x j. part_apart p (slice_get places q) x (λ y at. record_apart places p h.1 q y at) j),
    );
    order = below.order;
  }
