-- The lowest non-hole of a class, from a search of the places with its root. Assumes nothing.
use Rattle.std.proofs.Common.{ℕ, ◌<◌, ◌≢◌, List, Some, None, Option, inl, inr}
use Rattle.std.proofs.lemmas.Bool.{cases_eq, cases_lt}
use Rattle.recipe.specs.Fillings.{Pair}
use Rattle.recipe.specs.Links.{Linked, kind_of}
use Rattle.nodes.specs.NonHoles.{FindsNonHole, NonHoleMate}
use Rattle.nodes.specs.Searches.{LowestBelow}
use Rattle.nodes.specs.PlaceClasses.{PlacesJoined, RootsLink}
use Rattle.nodes.specs.Records.{written}
use Rattle.nodes.proofs.ClashesFound.{form_there, form_past}
use Rattle.nodes.proofs.PlacesInside.{linked_inside, moved_in}

module _ (n : ℕ) (ws rows : List ℕ) (told : List Pair) (joined : PlacesJoined (written n ws) told rows) (roots : RootsLink (written n ws) told rows) (p : ℕ) (place : p < n) where
  -- places that are linked with p and are no holes are the places of the table with its root that are none
  inside : (q : ℕ) → Linked (written n ws) told p q → q < n
  inside q l = moved_in n (linked_inside (written n ws) told rows (form_past n ws) joined l) place

  mate : (q : ℕ) → Linked (written n ws) told p q → kind_of ((written n ws).form q) ≢ 3 → NonHoleMate rows ws p q
  mate q l solid = let k = inside q l in record { one_root = (roots p q place k).1 l; no_hole = rw (form_there n ws q k) at solid }

  linked : (q : ℕ) → q < n → NonHoleMate rows ws p q → Linked (written n ws) told p q × (kind_of ((written n ws).form q) ≢ 3)
  linked q k m = ((roots p q place k).0 m.one_root, rw (form_there n ws q k) m.no_hole)

  pub non_hole_found : (r : Option ℕ) → LowestBelow n (NonHoleMate rows ws p) r → FindsNonHole (written n ws) told p r
  non_hole_found None none = λ q l. elim (cases_eq (kind_of ((written n ws).form q)) 3) [ inl e ↦ e | inr solid ↦ absurd (none q (inside q l) (mate q l solid)) ]
  non_hole_found (Some q) (low, found, lower) = record {
    has = linked q low found;
    lowest = λ j w. elim (cases_lt j q) [ inl l ↦ absurd (lower j l (mate j w.0 w.1)) | inr l ↦ l ];
  }
