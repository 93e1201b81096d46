-- Places that clash, from places with one root that differ. Assumes nothing.
use Rattle.std.proofs.Common.{◌≡◌, ℕ, ◌<◌, ◌≤◌, List, nat_eq, inl, inr, arith}
use Rattle.std.proofs.lemmas.Bool.{cases_lt}
use Rattle.std.proofs.lemmas.Bool.Decides.{nat_tests}
use Rattle.recipe.specs.Common.{Least}
use Rattle.recipe.specs.Fillings.{Pair}
use Rattle.recipe.specs.Links.{Clash}
use Rattle.recipe.specs.Tables.{Form}
use Rattle.recipe.specs.Tells.{NoClash}
use Rattle.recipe.proofs.Shapes.{differ_itself}
use Rattle.nodes.specs.Opposed.{Opposed}
use Rattle.nodes.specs.PlaceClasses.{PlacesJoined, RootsLink}
use Rattle.nodes.specs.Records.{written, written_form}
use Rattle.nodes.proofs.LeafNumbers.{nat_sameness}
use Rattle.nodes.proofs.PlacesInside.{linked_inside}

module _ (n : ℕ) (ws : List ℕ) where
  -- the words write what stands at a place
  pub form_there : (p : ℕ) → p < n → (written n ws).form p ≡ written_form ws p
  form_there p h = grind (arith, nat_tests)

  -- and nil stands past the end
  pub form_past : (p : ℕ) → n ≤ p → (written n ws).form p ≡ Form.nil
  form_past p h = grind (arith, nat_tests)

  module _ (rows : List ℕ) (told : List Pair) (joined : PlacesJoined (written n ws) told rows) (roots : RootsLink (written n ws) told rows) where
    -- clashes are places of the table with one root that differ
    opposed : (p q : ℕ) → Clash nat_eq (written n ws) told p q → (p < n) × (q < n) × Opposed rows ws p q
    opposed p q clash = elim (linked_inside (written n ws) told rows form_past joined clash.linked) [
      | inl e ↦ absurd (differ_itself nat_sameness ((written n ws).form q) (rw e at clash.differ))
      | inr (h, k) ↦ (h, k, record { one_root = (roots p q h k).1 clash.linked; differ = rw (form_there p h, form_there q k) at clash.differ })
    ]

    clashing : (p q : ℕ) → p < n → q < n → Opposed rows ws p q → Clash nat_eq (written n ws) told p q
    clashing p q h k o = record { linked = (roots p q h k).0 o.one_root; differ = rw (form_there p h, form_there q k) o.differ }

    pub none_found : ((j k : ℕ) → j < n → k < n → Opposed rows ws j k → ⊥) → NoClash nat_eq (written n ws) told
    none_found none p q clash = let o = opposed p q clash in none p q o.0 o.1 o.2

    pub lowest_found : (p q : ℕ) → p < n → ((j k : ℕ) → j < p → k < n → Opposed rows ws j k → ⊥) → q < n → Opposed rows ws p q → ((k : ℕ) → k < q → Opposed rows ws p k → ⊥) → Least (λ j. (k : ℕ) × Clash nat_eq (written n ws) told j k) p × Least (Clash nat_eq (written n ws) told p) q
    lowest_found p q h none k found low = (
      record {
        has = (q, clashing p q h k found);
        lowest = λ j w. let o = opposed j w.0 w.1 in elim (cases_lt j p) [ inl l ↦ absurd (none j w.0 l o.1 o.2) | inr l ↦ l ];
      },
      record {
        has = clashing p q h k found;
        lowest = λ j w. let o = opposed p j w in elim (cases_lt j q) [ inl l ↦ absurd (low j l o.2) | inr l ↦ l ];
      },
    )
