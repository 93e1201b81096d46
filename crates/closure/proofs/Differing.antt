-- Forms that differ: whether two do, and a third beside two that do. Assumes nothing.
use Rattle.std.proofs.Common.{◌≡◌, Bool, false, ◌≢◌, ◌⊎◌, sym, refl, ◌∙◌, inl, inr, arith}
use Rattle.std.proofs.lemmas.Bool.{both_ways, cases_Bool, cases_eq}
use Rattle.recipe.specs.Links.{Differ, kind_of}
use Rattle.recipe.specs.Sameness.{Sameness}
use Rattle.recipe.specs.Tables.{Form}
use Rattle.closure.proofs.Forms.{known_leaf}
use Rattle.closure.proofs.Known.{Known, known_same, known_both, known_either, known_not, known_false}

module _ {L : Type 0} {same : L → L → Bool} where
  -- what two forms that differ are
  differ_cases : {f g : Form L} → Differ same f g → ((kind_of f ≢ 3) × ((kind_of g ≢ 3) × (kind_of f ≢ kind_of g))) ⊎ ((l : L) × (f ≡ Form.leaf l) × ((k : L) × (g ≡ Form.leaf k) × (same l k ≡ false)))
  differ_cases (Differ.kinds n m d) = inl (n, (m, d))
  differ_cases (Differ.leaves {l = l} {m = k} e) = inr (l, refl, (k, refl, e))

  pub differ_decided : (f g : Form L) → Known (Differ same f g)
  differ_decided f g =
      known_same
      (λ o. elim o [ inl (n, (m, d)) ↦ Differ.kinds n m d | inr (l, d, (k, e, s)) ↦ rw (d, e) (Differ.leaves s) ])
      differ_cases
      (known_either
      (known_both (known_not (cases_eq (kind_of f) 3)) (known_both (known_not (cases_eq (kind_of g) 3)) (known_not (cases_eq (kind_of f) (kind_of g)))))
      (known_leaf (λ l. known_leaf (λ k. known_false (same l k)) g) f))

  module _ (laws : Sameness same) where
    -- of two leaves that are not the same a form that is no hole differs from one
    beside_leaf : (g : Form L) (l k : L) → same l k ≡ false → kind_of g ≢ 3 → Differ same g (Form.leaf l) ⊎ Differ same g (Form.leaf k)
    beside_leaf (Form.leaf j) l k s n =
        elim (cases_Bool (same j l)) [
          | inl e ↦ elim (cases_Bool (same j k)) [
            | inl d ↦ absurd (both_ways _ s (laws.transitive l j k (laws.symmetric j l e) d))
            | inr d ↦ inr (Differ.leaves d)
          ]
          | inr e ↦ inl (Differ.leaves e)
        ]
    beside_leaf g l k s n = inl (Differ.kinds n (λ e. omega arith) (λ e. omega arith))

    -- of two forms that differ a third that is no hole differs from one
    pub differ_third : {f h : Form L} (g : Form L) → kind_of g ≢ 3 → Differ same f h → Differ same g f ⊎ Differ same g h
    differ_third g n (Differ.kinds {f = f} {g = h} a b d) =
        elim (cases_eq (kind_of g) (kind_of f)) [ inl e ↦ inr (Differ.kinds n b (λ c. d (sym e ∙ c))) | inr e ↦ inl (Differ.kinds n a e) ]
    differ_third g n (Differ.leaves {l = l} {m = k} s) = beside_leaf g l k s n
