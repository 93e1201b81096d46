-- A forest whose nodes are their own parents and remember their own parts is exact for no pairs. Assumes nothing.
use Rattle.std.proofs.Common.{◌≡◌, ℕ, ◌*◌, ◌<◌, ◌≤◌, List, [], length, Some, refl, sym, ◌∙◌, arith}
use Rattle.std.proofs.lemmas.Bool.{cond_below}
use Rattle.recipe.specs.Validity.{Ordered}
use Rattle.forest.specs.Exact.{Exact}
use Rattle.nodes.specs.PlaceClasses.{place_parts}
use Rattle.nodes.specs.Records.{written, written_form}
use Rattle.nodes.specs.Starting.{FewParts, OwnRow, written_part}
use Rattle.nodes.proofs.OwnParts.{own_exact}
use Rattle.nodes.proofs.PlaceParts.{part_found}

module _ (n : ℕ) (ws : List ℕ) where
  -- the form of a place of the table is the written one
  pub form_written : (p : ℕ) → p < n → (written n ws).form p ≡ written_form ws p
  form_written p low = sym (cond_below p n _ _ low)

  pub part_written : (p side : ℕ) → p < n → place_parts (written n ws) p side ≡ written_part ws p side
  part_written p side low = rw (form_written p low) refl

  module _ (ordered : Ordered (written n ws)) where
    -- parts are places of the table
    pub part_below : (p side c : ℕ) → place_parts (written n ws) p side ≡ Some c → c < n
    part_below p side c e = let (x, i, s, at) = part_found _ side c e in let low = ordered.rising p x i in omega arith

    pub parts_few : (p : ℕ) → p < n → n ≤ 512 → FewParts ws p
    parts_few p low few side c e = let below = part_below p side c (part_written p side low ∙ e) in omega arith

    -- a forest in which the places are their own parents is exact for no pairs
    pub first_exact : (rows : List ℕ) → length rows ≡ 4 * n → ((i : ℕ) → i < n → OwnRow ws rows i) → Exact (place_parts (written n ws)) [] rows
    first_exact rows long own =
        own_exact (place_parts (written n ws)) n (λ i side c low h e. part_below i side c e) rows long
        (λ i low. record { own = (own i low).own; parts = λ side h. (own i low).parts side h ∙ sym (part_written i side low) })
