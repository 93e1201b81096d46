-- Comparing two places of the words side by side. Assumes nothing.
use Rattle.std.proofs.Common.{◌≡◌, ℕ, ◌+◌, ◌*◌, ◌<◌, ◌≤◌, ◌↔◌, Bool, true, false, not, List, ◌∷◌, length, get_or, nat_eq, refl, sym, ap, ◌∙◌, inl, arith}
use Rattle.std.proofs.lemmas.Bool.{cond_above}
use denote.Enum.Bare.{sameb}
use Rattle.recipe.specs.declared.places.Kind.{Kind}
use Rattle.recipe.specs.contracts.places.Kind.{the_type}
use Rattle.recipe.specs.Alike.{Finished}
use Rattle.recipe.specs.Fillings.{Filling, Satisfies}
use Rattle.recipe.specs.Kinds.{code_of}
use Rattle.recipe.specs.Links.{kind_of}
use Rattle.recipe.specs.Recipes.{inside}
use Rattle.recipe.specs.Scopes.{NameEqual}
use Rattle.recipe.specs.Tables.{Form, Table, depth, scope}
use Rattle.recipe.specs.Validity.{Ordered}
use Rattle.nodes.specs.Heights.{FewNames}
use Rattle.nodes.specs.Records.{written, written_form}
use Rattle.nodes.proofs.EqualPlaces.{depth_insides, equal_binds, equal_calls, equal_leaves, equal_names, equal_nils, finished_insides, finished_lefts, finished_rights, kinds_apart, no_hole, scopes_inside, scopes_left, scopes_right}
use Rattle.nodes.proofs.FormsWritten.{bind_there, call_there, inside_up, kind_there, leaf_there, name_there, nil_there}
use Rattle.nodes.proofs.KindsThatDiffer.{not_kind, not_of, not_so, one_kind}

-- the kinds of two forms that are not told apart, one of which is j
pub both_kinds : (ws : List ℕ) (p q : ℕ) (k m : Kind) (b : Bool) → code_of k ≡ kind_of (written_form ws p) → code_of m ≡ kind_of (written_form ws q) → b ≡ not (sameb the_type m k) → b ≡ false → (j : Kind) → k ≡ j → (kind_of (written_form ws p) ≡ code_of j) × (kind_of (written_form ws q) ≡ code_of j)
both_kinds ws p q k m b one two told not_told j is =
    (sym one ∙ ap code_of is, sym two ∙ ap code_of (one_kind m k (not_of _ (sym told ∙ not_told)) ∙ is))

-- from one equivalence to the next
pub both_steps : {A B C : Type 0} → A ↔ B → B ↔ C → A ↔ C
both_steps f g = (λ a. g.0 (f.0 a), λ c. f.1 (g.1 c))

module _ (n : ℕ) (ws : List ℕ) (ordered : Ordered (written n ws)) where
  abbrev T : Table ℕ
  T = written n ws

  nothing_past : (p : ℕ) → T.size ≤ p → T.form p ≡ Form.nil
  nothing_past p h = sym (cond_above p n (written_form ws p) Form.nil Form.nil h refl)

  module _ (p q : ℕ) (low : p < n) (low_too : q < n) where
    abbrev a : ℕ
    a = get_or ws (8 * p + 1) 0

    abbrev c : ℕ
    c = get_or ws (8 * p + 2) 0

    abbrev b : ℕ
    b = get_or ws (8 * q + 1) 0

    abbrev d : ℕ
    d = get_or ws (8 * q + 2) 0

    pub never_equal : (k m : Kind) (t : Bool) → code_of k ≡ kind_of (written_form ws p) → code_of m ≡ kind_of (written_form ws q) → t ≡ not (sameb the_type m k) → t ≡ true → Finished T p q → (θ : Filling ℕ) → Satisfies nat_eq T θ (p, q) → ⊥
    never_equal k m t one two told is finished =
        let apart = not_kind m k (not_so _ (sym told ∙ is)) in
        kinds_apart T ordered nothing_past p q nat_eq finished
        (λ e. apart (two ∙ sym (kind_there n ws q low_too) ∙ sym e ∙ kind_there n ws p low ∙ sym one))

    pub nils_equal : (kind_of (written_form ws p) ≡ 0) × (kind_of (written_form ws q) ≡ 0) → (θ : Filling ℕ) → Satisfies nat_eq T θ (p, q)
    nils_equal kinds = equal_nils T ordered nothing_past p q nat_eq (nil_there n ws p low kinds.0) (nil_there n ws q low_too kinds.1)

    pub never_hole : kind_of (written_form ws p) ≡ 3 → Finished T p q → ⊥
    never_hole e finished = (no_hole T ordered nothing_past p q finished).0 (kind_there n ws p low ∙ e)

    pub leaves_equal : (kind_of (written_form ws p) ≡ 1) × (kind_of (written_form ws q) ≡ 1) → (θ : Filling ℕ) → (nat_eq a b ≡ true) ↔ Satisfies nat_eq T θ (p, q)
    leaves_equal kinds = equal_leaves T ordered nothing_past p q nat_eq a b (leaf_there n ws p low kinds.0) (leaf_there n ws q low_too kinds.1)

    -- two names
    module _ (kinds : (kind_of (written_form ws p) ≡ 2) × (kind_of (written_form ws q) ≡ 2)) where
      pub names_few : FewNames T → (a < 64) × (b < 64)
      names_few few = (few.names p a (name_there n ws p low kinds.0), few.names q b (name_there n ws q low_too kinds.1))

      pub names_equal : (θ : Filling ℕ) → NameEqual (scope T p) a (scope T q) b ↔ Satisfies nat_eq T θ (p, q)
      names_equal = equal_names T ordered nothing_past p q nat_eq a b (name_there n ws p low kinds.0) (name_there n ws q low_too kinds.1)

    -- two binds
    module _ (kinds : (kind_of (written_form ws p) ≡ 4) × (kind_of (written_form ws q) ≡ 4)) where
      pub binders_few : FewNames T → (a < 64) × (b < 64)
      binders_few few = (
        few.binders p a (inside a c) (rw (bind_there n ws p low kinds.0) (inl refl)) refl,
        few.binders q b (inside b d) (rw (bind_there n ws q low_too kinds.1) (inl refl)) refl,
      )

      pub below_binders : (scope T c ≡ a ∷ scope T p) × (scope T d ≡ b ∷ scope T q)
      below_binders = scopes_inside T ordered nothing_past p q a b c d (bind_there n ws p low kinds.0) (bind_there n ws q low_too kinds.1)

      -- there is room for one more
      pub binders_shallow : (depth T p < 64) × (depth T q < 64)
      binders_shallow =
          let first = ap length below_binders.0 in
          let second = ap length below_binders.1 in
          let deep = ordered.shallow c (inside_up n ws p low ordered kinds.0).1 in
          let deep_too = ordered.shallow d (inside_up n ws q low_too ordered kinds.1).1 in
          (omega arith, omega arith)

      pub insides_deep : depth T p ≡ depth T q → depth T c ≡ depth T d
      insides_deep = depth_insides T ordered nothing_past p q a b c d (bind_there n ws p low kinds.0) (bind_there n ws q low_too kinds.1)

      pub insides_finished : Finished T p q → Finished T c d
      insides_finished = finished_insides T ordered nothing_past p q a b c d (bind_there n ws p low kinds.0) (bind_there n ws q low_too kinds.1)

      pub binds_equal : (θ : Filling ℕ) → Satisfies nat_eq T θ (c, d) ↔ Satisfies nat_eq T θ (p, q)
      binds_equal = equal_binds T ordered nothing_past p q a b c d (bind_there n ws p low kinds.0) (bind_there n ws q low_too kinds.1) nat_eq

    -- two calls
    module _ (kinds : (kind_of (written_form ws p) ≡ 5) × (kind_of (written_form ws q) ≡ 5)) where
      pub lefts_there : (scope T a ≡ scope T p) × (scope T b ≡ scope T q)
      lefts_there = scopes_left T ordered nothing_past p q a b c d (call_there n ws p low kinds.0) (call_there n ws q low_too kinds.1)

      pub rights_there : (scope T c ≡ scope T p) × (scope T d ≡ scope T q)
      rights_there = scopes_right T ordered nothing_past p q a b c d (call_there n ws p low kinds.0) (call_there n ws q low_too kinds.1)

      pub lefts_finished : Finished T p q → Finished T a b
      lefts_finished = finished_lefts T ordered nothing_past p q a b c d (call_there n ws p low kinds.0) (call_there n ws q low_too kinds.1)

      pub rights_finished : Finished T p q → Finished T c d
      rights_finished = finished_rights T ordered nothing_past p q a b c d (call_there n ws p low kinds.0) (call_there n ws q low_too kinds.1)

      pub calls_equal : (θ : Filling ℕ) → (Satisfies nat_eq T θ (a, b) × Satisfies nat_eq T θ (c, d)) ↔ Satisfies nat_eq T θ (p, q)
      calls_equal = equal_calls T ordered nothing_past p q a b c d (call_there n ws p low kinds.0) (call_there n ws q low_too kinds.1) nat_eq
