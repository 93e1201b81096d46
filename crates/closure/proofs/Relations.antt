-- Recipes related by a relation of names: names that are free in them, their parts, and relations one after another. Assumes nothing.
use Rattle.std.proofs.Common.{◌≡◌, ℕ, Bool, true, ◌≢◌, ◌⊎◌, ◌↔◌, List, [], ◌∷◌, Some, None, Option, sym, refl, ap, inl, inr, arith}
use Rattle.std.proofs.lemmas.Bool.{cases_eq}
use Rattle.recipe.specs.Common.{In}
use Rattle.recipe.specs.Equality.{Equal}
use Rattle.recipe.specs.EqualityLaws.{Free}
use Rattle.recipe.specs.Recipes.{Recipe, Part, recipe_parts}
use Rattle.recipe.specs.Sameness.{Sameness}
use Rattle.recipe.specs.Scopes.{Scope, NameEqual}
use Rattle.recipe.proofs.EqualScopes.{name_step}
use Rattle.closure.proofs.Forms.{only, one_at_step, text_parts}

-- a relation of names
abbrev pub Relation : Type 1
Relation = ℕ → ℕ → Type 0

-- a relation below two binders: the one name and the other, or names that are neither and were related
abbrev pub under : Relation → ℕ → ℕ → Relation
under R a b x y = ((x ≡ a) × (y ≡ b)) ⊎ ((x ≢ a) × (y ≢ b) × R x y)

-- any two names
abbrev pub Always : Relation
Always x y = Unit {0}

-- two recipes are of one form throughout, with the same leaves, and names that are related where they stand
pub data Related {L : Type 0} (same : L → L → Bool) : Relation → Recipe L → Recipe L → Type 1 where
  nils : {R : Relation} → Related same R Recipe.nil Recipe.nil
  leaves : {R : Relation} {l m : L} → same l m ≡ true → Related same R (Recipe.leaf l) (Recipe.leaf m)
  names : {R : Relation} {x y : ℕ} → R x y → Related same R (Recipe.name x) (Recipe.name y)
  binds : {R : Relation} {a b : ℕ} {t u : Recipe L} → Related same (under R a b) t u → Related same R (Recipe.bind a t) (Recipe.bind b u)
  calls : {R : Relation} {t u v w : Recipe L} → Related same R t v → Related same R u w → Related same R (Recipe.call t u) (Recipe.call v w)

-- the spot of a recipe at a path is the name x, and no bind on the path holds it
pub data FreeAt {L : Type 0} : Recipe L → List ℕ → ℕ → Type 0 where
  here : {x : ℕ} → FreeAt (Recipe.name x) [] x
  left : {t u : Recipe L} {path : List ℕ} {x : ℕ} → FreeAt t path x → FreeAt (Recipe.call t u) (0 ∷ path) x
  right : {t u : Recipe L} {path : List ℕ} {x : ℕ} → FreeAt u path x → FreeAt (Recipe.call t u) (1 ∷ path) x
  inside : {a x : ℕ} {t : Recipe L} {path : List ℕ} → x ≢ a → FreeAt t path x → FreeAt (Recipe.bind a t) (2 ∷ path) x

-- what is free at a spot that is a name is that name
pub name_free : {L : Type 0} {x y : ℕ} {path : List ℕ} → FreeAt {L = L} (Recipe.name x) path y → y ≡ x
name_free FreeAt.here = refl

-- what is free at a path is free
pub free_at : {L : Type 0} {t : Recipe L} {path : List ℕ} {x : ℕ} → FreeAt t path x → Free x t
free_at FreeAt.here = refl
free_at (FreeAt.left f) = inl (free_at f)
free_at (FreeAt.right f) = inr (free_at f)
free_at (FreeAt.inside n f) = (n, free_at f)

-- a recipe without free names
abbrev pub Closed : {L : Type 0} → Recipe L → Type 0
Closed t = (x : ℕ) → Free x t → ⊥

-- what is free at a path below a step is free in a part at that step
free_part : {L : Type 0} (t : Recipe L) (s : ℕ) (path : List ℕ) (x : ℕ) → FreeAt t (s ∷ path) x → (y : Part (Recipe L)) × In y (recipe_parts t) × (y.step ≡ s) × (y.under ≢ Some x) × FreeAt y.at path x
free_part t s path x (FreeAt.left f) = (_, inl refl, refl, λ e. cc, f)
free_part t s path x (FreeAt.right f) = (_, inr (inl refl), refl, λ e. cc, f)
free_part t s path x (FreeAt.inside n f) = (_, inl refl, refl, λ e. n (cc), f)

-- free at a path below a step: free in the part at that step, and not its binder
pub free_step : {L : Type 0} (t : Recipe L) (y : Part (Recipe L)) (path : List ℕ) (x : ℕ) → In y (recipe_parts t) → FreeAt t (y.step ∷ path) x → (y.under ≢ Some x) × FreeAt y.at path x
free_step t y path x i f =
    let (z, j, e, n, g) = free_part t y.step path x f in
    let one : z ≡ y = one_at_step z y (text_parts t) j i e in
    (rw one at n, rw one at g)

pub step_free : {L : Type 0} (t : Recipe L) (y : Part (Recipe L)) (path : List ℕ) (x : ℕ) → In y (recipe_parts t) → y.under ≢ Some x → FreeAt y.at path x → FreeAt t (y.step ∷ path) x
step_free (Recipe.bind a t) y path x i = rw (only i) (λ n f. FreeAt.inside (λ e. n (ap Some (sym e))) f)
step_free (Recipe.call t u) y path x (inl i) = rw i (λ n f. FreeAt.left f)
step_free (Recipe.call t u) y path x (inr i) = rw (only i) (λ n f. FreeAt.right f)
step_free t y path x i = absurd i

-- another relation below two binders, by a step for names that are neither
under_map : (R S : Relation) (a b x y : ℕ) → (x ≢ a → y ≢ b → R x y → S x y) → under R a b x y → under S a b x y
under_map R S a b x y step h = grind (arith, step)

-- `under` and the converse
under_back : (R : Relation) (a b x y : ℕ) → under R a b x y → under (λ u v. R v u) b a y x
under_back R a b x y h = grind arith

-- `under` and one relation after another
under_chain : (R S : Relation) (a b c x y z : ℕ) → under R a b x y → under S b c y z → under (λ u w. (v : ℕ) × R u v × S v w) a c x z
under_chain R S a b c x y z h k = grind arith

module _ {L : Type 0} {same : L → L → Bool} where
  -- a related name is free at the same path
  pub transport : {R : Relation} {t u : Recipe L} {path : List ℕ} {x : ℕ} → Related same R t u → FreeAt t path x → (y : ℕ) × R x y × FreeAt u path y
  transport Related.nils f = elim f [ ]
  transport (Related.leaves e) f = elim f [ ]
  transport (Related.names {y = y} r) FreeAt.here = (y, r, FreeAt.here)
  transport (Related.binds r) (FreeAt.inside n f) =
      let (y, o, g) = transport r f in
      elim o [ inl e ↦ absurd (n e.0) | inr m ↦ (y, m.2, FreeAt.inside m.1 g) ]
  transport (Related.calls r s) (FreeAt.left f) = let (y, o, g) = transport r f in (y, o, FreeAt.left g)
  transport (Related.calls r s) (FreeAt.right f) = let (y, o, g) = transport s f in (y, o, FreeAt.right g)

  -- a relation that holds where the first does, of the names that are free at one path
  pub weaken : {R : Relation} (S : Relation) {t u : Recipe L} → Related same R t u → ((path : List ℕ) (x y : ℕ) → FreeAt t path x → FreeAt u path y → R x y → S x y) → Related same S t u
  weaken S Related.nils along = Related.nils
  weaken S (Related.leaves e) along = Related.leaves e
  weaken S (Related.names r) along = Related.names (along [] _ _ FreeAt.here FreeAt.here r)
  weaken S (Related.binds {R = R} {a = a} {b = b} r) along =
      Related.binds (weaken (under S a b) r (λ path x y f g. under_map R S a b x y (λ n m. along (2 ∷ path) x y (FreeAt.inside n f) (FreeAt.inside m g))))
  weaken S (Related.calls r s) along =
      Related.calls (weaken S r (λ path x y f g. along (0 ∷ path) x y (FreeAt.left f) (FreeAt.left g))) (weaken S s (λ path x y f g. along (1 ∷ path) x y (FreeAt.right f) (FreeAt.right g)))

  -- equality in scopes is being related by equality of names in those scopes
  pub equal_related : {Φ Ψ : Scope} {t u : Recipe L} → Equal same Φ t Ψ u → Related same (λ x y. NameEqual Φ x Ψ y) t u
  equal_related Equal.nils = Related.nils
  equal_related (Equal.leaves e) = Related.leaves e
  equal_related (Equal.names e) = Related.names e
  equal_related (Equal.binds {Φ = Φ} {Ψ = Ψ} {a = a} {b = b} e) =
      Related.binds (weaken (under (λ x y. NameEqual Φ x Ψ y) a b) (equal_related e) (λ path x y f g. (name_step Φ Ψ a b x y).0))
  equal_related (Equal.calls d e) = Related.calls (equal_related d) (equal_related e)

  pub related_equal : {R : Relation} {t u : Recipe L} (Φ Ψ : Scope) → Related same R t u → ((x y : ℕ) → R x y → NameEqual Φ x Ψ y) → Equal same Φ t Ψ u
  related_equal Φ Ψ Related.nils each = Equal.nils
  related_equal Φ Ψ (Related.leaves e) each = Equal.leaves e
  related_equal Φ Ψ (Related.names r) each = Equal.names (each _ _ r)
  related_equal Φ Ψ (Related.binds {R = R} {a = a} {b = b} r) each =
      Equal.binds (related_equal (a ∷ Φ) (b ∷ Ψ) r (λ x y o. (name_step Φ Ψ a b x y).1 (under_map R (λ u v. NameEqual Φ u Ψ v) a b x y (λ n m. each x y) o)))
  related_equal Φ Ψ (Related.calls r s) each = Equal.calls (related_equal Φ Ψ r each) (related_equal Φ Ψ s each)

  module _ (laws : Sameness same) where
    pub converse : {R : Relation} {t u : Recipe L} → Related same R t u → Related same (λ x y. R y x) u t
    converse Related.nils = Related.nils
    converse (Related.leaves e) = Related.leaves (laws.symmetric _ _ e)
    converse (Related.names r) = Related.names r
    converse (Related.binds {R = R} {a = a} {b = b} r) =
        Related.binds (weaken (under (λ x y. R y x) b a) (converse r) (λ path x y f g. under_back R a b y x))
    converse (Related.calls r s) = Related.calls (converse r) (converse s)

    pub transport_back : {R : Relation} {t u : Recipe L} {path : List ℕ} {y : ℕ} → Related same R t u → FreeAt u path y → (x : ℕ) × R x y × FreeAt t path x
    transport_back r = transport (converse r)

    pub compose : {R S : Relation} {t u v : Recipe L} → Related same R t u → Related same S u v → Related same (λ x z. (y : ℕ) × R x y × S y z) t v
    compose Related.nils Related.nils = Related.nils
    compose (Related.leaves d) (Related.leaves e) = Related.leaves (laws.transitive _ _ _ d e)
    compose (Related.names {y = y} r) (Related.names s) = Related.names (y, r, s)
    compose (Related.binds {R = R} {a = a} {b = b} r) (Related.binds {R = S} {b = c} s) =
        Related.binds (weaken (under (λ x z. (y : ℕ) × R x y × S y z) a c) (compose r s) (λ path x z f g o. under_chain R S a b c x o.0 z o.1 o.2))
    compose (Related.calls q r) (Related.calls s t) = Related.calls (compose q s) (compose r t)

    -- a recipe and itself, by a relation that each of its free names has to itself
    pub identical : (R : Relation) (t : Recipe L) → ((path : List ℕ) (x : ℕ) → FreeAt t path x → R x x) → Related same R t t
    identical R Recipe.nil each = Related.nils
    identical R (Recipe.leaf l) each = Related.leaves (laws.reflexive l)
    identical R (Recipe.name x) each = Related.names (each [] x FreeAt.here)
    identical R (Recipe.bind a t) each =
        Related.binds (identical (under R a a) t (λ path x f. elim (cases_eq x a) [ inl e ↦ inl (e, e) | inr n ↦ inr (n, n, each (2 ∷ path) x (FreeAt.inside n f)) ]))
    identical R (Recipe.call t u) each =
        Related.calls (identical R t (λ path x f. each (0 ∷ path) x (FreeAt.left f))) (identical R u (λ path x f. each (1 ∷ path) x (FreeAt.right f)))

-- a relation below the binders of two parts, or of two that stand under none (no other two stand at one step of related recipes)
abbrev pub beneath : Relation → Option ℕ → Option ℕ → Relation
beneath R None None = R
beneath R (Some a) (Some b) = under R a b
beneath R o r = Always

-- parts at one step of related recipes are related, below their binders
pub parts_related : {L : Type 0} {same : L → L → Bool} {R : Relation} {t u : Recipe L} (x y : Part (Recipe L)) → Related same R t u → In x (recipe_parts t) → In y (recipe_parts u) → x.step ≡ y.step → Related same (beneath R x.under y.under) x.at y.at
parts_related x y (Related.binds r) i j e = rw (only i, only j) r
parts_related x y (Related.calls r s) (inl i) (inl j) e = rw (i, j) r
parts_related x y (Related.calls r s) (inl i) (inr j) e = absurd (grind arith)
parts_related x y (Related.calls r s) (inr i) (inl j) e = absurd (grind arith)
parts_related x y (Related.calls r s) (inr i) (inr j) e = rw (only i, only j) s
parts_related x y r i j e = absurd i

-- recipes that are related are of one shape, whatever the names are
pub of_one_shape : {L : Type 0} {same : L → L → Bool} {R : Relation} {t u : Recipe L} → Related same R t u → Related same Always t u
of_one_shape r = weaken Always r (λ path x y f g d. tt)

-- the name of a binder is not free above it
pub binder_not_free : {L : Type 0} {t : Recipe L} {path : List ℕ} {a : ℕ} (y : Part (Recipe L)) → In y (recipe_parts t) → y.under ≡ Some a → FreeAt t path a → ⊥
binder_not_free y i e FreeAt.here = i
binder_not_free y i e (FreeAt.inside n f) = grind arith
binder_not_free y i e f = grind arith

-- the names of two binders are free at the same spots of what is related below the two
pub binders_along : {L : Type 0} {same : L → L → Bool} (laws : Sameness same) (R : Relation) (a b : ℕ) {t u : Recipe L} (path : List ℕ) → Related same (under R a b) t u → FreeAt t path a ↔ FreeAt u path b
binders_along laws R a b path r = (
  λ f. let (y, d, g) = transport r f in elim d [ inl e ↦ rw e.1 at g | inr n ↦ absurd (n.0 refl) ],
  λ f. let (x, d, g) = transport_back laws r f in elim d [ inl e ↦ rw e.0 at g | inr n ↦ absurd (n.1 refl) ],
)
