-- The worked examples in which every tell is accepted. Assumes nothing.
use Rattle.std.proofs.Common.{◌≡◌, ℕ, zero, suc, eqb, ◌≢◌, [], ◌∷◌, Some, None, Option, sym, refl, ap, ◌∙◌, inl, inr, arith}
use Rattle.std.proofs.lemmas.Bool.{cond-false, ne_eqb}
use Rattle.leaves.specs.Rates.{same_rate}
use Rattle.leaves.specs.declared.rate.Rate.{Rate}
use Rattle.recipe.proofs.EqualRecipes.{equal_name, equal_bind, equal_call, equal_insides}
use Rattle.recipe.proofs.EqualScopes.{name_at_binder, name_past_binder}
use Rattle.recipe.proofs.Filled.{Rising}
use Rattle.recipe.specs.Equality.{Equal}
use Rattle.recipe.specs.Fillings.{Filling, SatisfiesAll}
use Rattle.recipe.specs.Labels.{label_at, label_of, name_label}
use Rattle.recipe.specs.Looks.{AllHave, Looks}
use Rattle.recipe.specs.Numbering.{number_of}
use Rattle.recipe.specs.Recipes.{Recipe}
use Rattle.recipe.specs.Tells.{Tells}
use Rattle.recipe.specs.declared.labels.Label.{Label}
use Rattle.specimens.specs.Examples.{identity, renaming, twin_parts, equal_rates}
use Rattle.specimens.proofs.Helpers.{accepts_by}
use Rattle.specimens.proofs.Tables.{InTurn, table, opened, one_pair, zeros}

-- (lambda (a) X) and (lambda (b) b): X is a

pub x_is_a : {t : Recipe Rate} → Equal same_rate [] (Recipe.bind 0 t) [] (Recipe.bind 1 (Recipe.name 1)) → t ≡ Recipe.name 0
x_is_a e =
    let n = equal_name (equal_insides e) in
    n.1 ∙ ap Recipe.name (name_at_binder [] [] 0 1 n.0 n.2)

pub identity_right : Rising (table identity) → InTurn identity
unfolding opened
identity_right rising = (
  Tells.decided refl (accepts_by (table identity) rising _ zeros (one_pair (table identity) zeros (0, 2) (Equal.binds (Equal.names (inr (0, refl, refl)))))),
  (Looks.label refl (λ θ s. ap (λ t. Some (label_of (number_of same_rate []) [] t)) (x_is_a (s (0, 2) (inl refl)))), tt),
)

-- (lambda (a) X) and (lambda (y) (lambda (a) y)): X is a bind of a name other than a, with a inside

-- what the pair says of X
record BindsOther (t : Recipe Rate) : Type 0 where
  pub binder : ℕ
  pub other : binder ≢ 0
  pub is : t ≡ Recipe.bind binder (Recipe.name 0)

x_binds : {t : Recipe Rate} → Equal same_rate [] (Recipe.bind 0 t) [] (Recipe.bind 1 (Recipe.bind 0 (Recipe.name 1))) → BindsOther t
x_binds e =
    let b = equal_bind (equal_insides e) in
    let n = equal_name b.3 in
    let z = b.0 in
    let p = name_past_binder (0 ∷ []) (1 ∷ []) z 0 n.0 1 (λ h. omega arith) n.2 in
    let x_is : n.0 ≡ 0 = name_at_binder [] [] 0 1 n.0 p.1 in
    record {
      binder = z;
      other = λ h. p.0 (x_is ∙ sym h);
      is = b.2 ∙ ap (Recipe.bind z) (n.1 ∙ ap Recipe.name x_is);
    }

-- a inside such a bind is free
inside_label : (t : Recipe Rate) → BindsOther t → label_at (number_of same_rate []) t (2 ∷ []) ≡ Some (Label.Name 0)
unfolding opened
inside_label t b =
    ap (λ u. label_at (number_of same_rate []) u (2 ∷ [])) b.is ∙ ap (λ k. Some (name_label (b.binder ∷ []) 0 k)) (cond-false (eqb b.binder 0) (Some 0) None (ne_eqb b.binder 0 b.other))

pub renaming_right : Rising (table renaming) → InTurn renaming
unfolding opened
renaming_right rising =
    let θ : Filling Rate = λ h. Recipe.bind 1 (Recipe.name 0) in (
      Tells.decided refl (accepts_by (table renaming) rising _ θ (one_pair (table renaming) θ (0, 2) (Equal.binds (Equal.binds (Equal.names (inr (1, refl, refl))))))),
      (
        Looks.label refl (λ θ s. ap (λ t. Some (label_of (number_of same_rate []) [] t)) (x_binds (s (0, 2) (inl refl))).is),
        (Looks.label refl (λ θ s. inside_label (θ 0) (x_binds (s (0, 2) (inl refl)))), tt),
      ),
    )

-- X and (Y Y): X is a call, of which nothing more is known

-- Y filled with a recipe, and X with the call
abbrev twins : Recipe Rate → Filling Rate
twins y zero = Recipe.call y y
twins y (suc h) = y

twins_satisfy : (y : Recipe Rate) → Equal same_rate [] y [] y → SatisfiesAll same_rate (table twin_parts) (twins y) ((0, 1) ∷ [])
unfolding opened
twins_satisfy y e = one_pair (table twin_parts) (twins y) (0, 1) (Equal.calls e e)

x_is_call : (θ : Filling Rate) → SatisfiesAll same_rate (table twin_parts) θ ((0, 1) ∷ []) → (l r : Recipe Rate) × (θ 0 ≡ Recipe.call l r)
unfolding opened
x_is_call θ s = let c = equal_call (s (0, 1) (inl refl)) in (c.0, c.1, c.2)

pub twin_parts_right : Rising (table twin_parts) → InTurn twin_parts
unfolding opened
twin_parts_right rising = (
  Tells.decided refl (accepts_by (table twin_parts) rising _ (twins Recipe.nil) (twins_satisfy Recipe.nil Equal.nils)),
  (
    Looks.label refl (λ θ s. ap (λ t. label_at (number_of same_rate []) t []) (x_is_call θ s).2),
    (
      Looks.undecided refl two_labels,
      (Looks.absent refl (λ θ s. ap (λ t. label_at (number_of same_rate []) t (2 ∷ [])) (x_is_call θ s).2), tt),
    ),
  ),
)
  where
    two_labels : (found : Option Label) → AllHave same_rate (table twin_parts) [] ((0, 1) ∷ []) 0 (0 ∷ []) found → ⊥
    two_labels found all =
        let with_nil : Some Label.Nil ≡ found = all (twins Recipe.nil) (twins_satisfy Recipe.nil Equal.nils) in
        let with_name : Some (Label.Name 0) ≡ found = all (twins (Recipe.name 0)) (twins_satisfy (Recipe.name 0) (Equal.names (inl (refl, refl, refl)))) in
        let z : ◌≡◌ {A = ℕ} 0 1 = cc in
        omega arith

-- 24 and 48/2: one rate

pub equal_rates_right : Rising (table equal_rates) → InTurn equal_rates
unfolding opened
equal_rates_right rising =
    let nils : Filling Rate = λ h. Recipe.nil in (
      Tells.decided refl (accepts_by (table equal_rates) rising _ nils (one_pair (table equal_rates) nils (0, 1) (Equal.leaves refl))),
      tt,
    )
