-- What a filling keeps of links: linked places are filled by recipes of one shape. So there is no clash and no cycle. Assumes nothing.
use Rattle.std.proofs.Common.{◌≡◌, ℕ, suc, ◌+◌, ◌<◌, ◌≤◌, Bool, true, ◌≢◌, List, sym, refl, ap, ◌∙◌, inl, inr, arith}
use Rattle.std.proofs.lemmas.Bool.{both_ways}
use Rattle.recipe.specs.Common.{In}
use Rattle.recipe.specs.Equality.{Equal}
use Rattle.recipe.specs.Fillings.{Filling, Pair, filled, layer}
use Rattle.recipe.specs.Links.{Linked, Differ, Reaches, kind_of}
use Rattle.recipe.specs.Recipes.{Recipe, Part, left, right, recipe_parts}
use Rattle.recipe.specs.Sameness.{Sameness}
use Rattle.recipe.specs.Scopes.{Scope}
use Rattle.recipe.specs.Tables.{Form, Table, parts}
use Rattle.recipe.specs.Tells.{NoClash, NoCycle}
use Rattle.recipe.proofs.Filled.{Rising, filled_layer}

-- the same forms at the same spots, and the same leaves, whatever the names are
pub data SameShape {L : Type 0} (same : L → L → Bool) : Recipe L → Recipe L → Type 0 where
  nils : SameShape same Recipe.nil Recipe.nil
  leaves : {l m : L} → same l m ≡ true → SameShape same (Recipe.leaf l) (Recipe.leaf m)
  names : {x y : ℕ} → SameShape same (Recipe.name x) (Recipe.name y)
  binds : {a b : ℕ} {t u : Recipe L} → SameShape same t u → SameShape same (Recipe.bind a t) (Recipe.bind b u)
  calls : {t u v w : Recipe L} → SameShape same t v → SameShape same u w → SameShape same (Recipe.call t u) (Recipe.call v w)

-- how many forms a recipe is made of
weight : {L : Type 0} → Recipe L → ℕ
weight Recipe.nil = 1
weight (Recipe.leaf l) = 1
weight (Recipe.name x) = 1
weight (Recipe.bind a t) = suc (weight t)
weight (Recipe.call t u) = suc (weight t + weight u)

-- a part of a place, filled
abbrev pub filled_part : {L : Type 0} → (ℕ → Recipe L) → Part ℕ → Part (Recipe L)
filled_part f x = record { step = x.step; at = f x.at; under = x.under }

-- a part of a form is a part of its filled text
pub layer_piece : {L : Type 0} (θ : Filling L) (f : ℕ → Recipe L) (form : Form L) (x : Part ℕ) → In x (parts form) → In (filled_part f x) (recipe_parts (layer θ f form))
layer_piece θ f Form.nil x i = elim i [ ]
layer_piece θ f (Form.leaf l) x i = elim i [ ]
layer_piece θ f (Form.name n) x i = elim i [ ]
layer_piece θ f (Form.hole h) x i = elim i [ ]
layer_piece θ f (Form.bind a c) x (inl i) = inl (ap (filled_part f) i)
layer_piece θ f (Form.bind a c) x (inr i) = elim i [ ]
layer_piece θ f (Form.call c d) x (inl i) = inl (ap (filled_part f) i)
layer_piece θ f (Form.call c d) x (inr (inl i)) = inr (inl (ap (filled_part f) i))
layer_piece θ f (Form.call c d) x (inr (inr i)) = elim i [ ]

-- the same of the filled text of a place
pub filled_piece : {L : Type 0} (T : Table L) (θ : Filling L) → Rising T → (p : ℕ) (x : Part ℕ) → In x (parts (T.form p)) → In (filled_part (filled T θ) x) (recipe_parts (filled T θ p))
filled_piece T θ rising p x i = rw (filled_layer T θ rising p) (layer_piece θ (filled T θ) (T.form p) x i)

-- a part is smaller
piece_weight : {L : Type 0} (t : Recipe L) (x : Part (Recipe L)) → In x (recipe_parts t) → weight x.at < weight t
unfolding weight
piece_weight Recipe.nil x i = elim i [ ]
piece_weight (Recipe.leaf l) x i = elim i [ ]
piece_weight (Recipe.name n) x i = elim i [ ]
piece_weight (Recipe.bind a t) x (inl i) = rw i (omega arith)
piece_weight (Recipe.bind a t) x (inr i) = elim i [ ]
piece_weight (Recipe.call t u) x (inl i) = rw i (omega arith)
piece_weight (Recipe.call t u) x (inr (inl i)) = rw i (omega arith)
piece_weight (Recipe.call t u) x (inr (inr i)) = elim i [ ]

part_weight : {L : Type 0} (T : Table L) (θ : Filling L) → Rising T → (p : ℕ) (x : Part ℕ) → In x (parts (T.form p)) → weight (filled T θ x.at) < weight (filled T θ p)
part_weight T θ rising p x i = piece_weight (filled T θ p) (filled_part (filled T θ) x) (filled_piece T θ rising p x i)

-- the kind of a recipe, numbered as the kinds of forms
recipe_kind : {L : Type 0} → Recipe L → ℕ
recipe_kind Recipe.nil = 0
recipe_kind (Recipe.leaf l) = 1
recipe_kind (Recipe.name x) = 2
recipe_kind (Recipe.bind a t) = 4
recipe_kind (Recipe.call t u) = 5

-- filling keeps the kind of what is no hole
layer_kind : {L : Type 0} (θ : Filling L) (f : ℕ → Recipe L) (form : Form L) → kind_of form ≢ 3 → recipe_kind (layer θ f form) ≡ kind_of form
unfolding recipe_kind
layer_kind θ f Form.nil n = refl
layer_kind θ f (Form.leaf l) n = refl
layer_kind θ f (Form.name x) n = refl
layer_kind θ f (Form.hole h) n = absurd (n refl)
layer_kind θ f (Form.bind a c) n = refl
layer_kind θ f (Form.call c d) n = refl

-- the left part of a call is not at the step of its right part
steps_apart : {X : Type 0} {t u : X} (x y : Part X) → x ≡ left t → y ≡ right u → x.step ≡ y.step → ⊥
steps_apart x y i j e = omega (arith, ap (λ z. z.step) i, ap (λ z. z.step) j)

module _ {L : Type 0} {same : L → L → Bool} where
  pub equal_shape : {Φ Ψ : Scope} {t u : Recipe L} → Equal same Φ t Ψ u → SameShape same t u
  equal_shape Equal.nils = SameShape.nils
  equal_shape (Equal.leaves e) = SameShape.leaves e
  equal_shape (Equal.names e) = SameShape.names
  equal_shape (Equal.binds e) = SameShape.binds (equal_shape e)
  equal_shape (Equal.calls d e) = SameShape.calls (equal_shape d) (equal_shape e)

  shape_weight : {t u : Recipe L} → SameShape same t u → weight t ≡ weight u
  unfolding weight
  shape_weight SameShape.nils = refl
  shape_weight (SameShape.leaves e) = refl
  shape_weight SameShape.names = refl
  shape_weight (SameShape.binds s) = ap suc (shape_weight s)
  shape_weight (SameShape.calls s t) = omega (arith, shape_weight s, shape_weight t)

  shape_kind : {t u : Recipe L} → SameShape same t u → recipe_kind t ≡ recipe_kind u
  unfolding recipe_kind
  shape_kind SameShape.nils = refl
  shape_kind (SameShape.leaves e) = refl
  shape_kind SameShape.names = refl
  shape_kind (SameShape.binds s) = refl
  shape_kind (SameShape.calls s t) = refl

  -- forms that differ are not filled by recipes of one shape
  pub differ_apart : {f g : Form L} (θ : Filling L) (part : ℕ → Recipe L) → Differ same f g → SameShape same (layer θ part f) (layer θ part g) → ⊥
  differ_apart {f = f} {g = g} θ part (Differ.kinds n m e) s = e (sym (layer_kind θ part f n) ∙ shape_kind s ∙ layer_kind θ part g m)
  differ_apart θ part (Differ.leaves n) (SameShape.leaves e) = both_ways _ n e

  -- neither of two forms that differ is a hole
  pub differ_no_holes : {f g : Form L} → Differ same f g → (kind_of f ≢ 3) × (kind_of g ≢ 3)
  differ_no_holes (Differ.kinds n m e) = (n, m)
  differ_no_holes (Differ.leaves e) = (λ h. omega arith, λ h. omega arith)

  module _ (laws : Sameness same) where
    pub shape_reflexive : (t : Recipe L) → SameShape same t t
    shape_reflexive Recipe.nil = SameShape.nils
    shape_reflexive (Recipe.leaf l) = SameShape.leaves (laws.reflexive l)
    shape_reflexive (Recipe.name x) = SameShape.names
    shape_reflexive (Recipe.bind a t) = SameShape.binds (shape_reflexive t)
    shape_reflexive (Recipe.call t u) = SameShape.calls (shape_reflexive t) (shape_reflexive u)

    pub shape_symmetric : {t u : Recipe L} → SameShape same t u → SameShape same u t
    shape_symmetric SameShape.nils = SameShape.nils
    shape_symmetric (SameShape.leaves e) = SameShape.leaves (laws.symmetric _ _ e)
    shape_symmetric SameShape.names = SameShape.names
    shape_symmetric (SameShape.binds s) = SameShape.binds (shape_symmetric s)
    shape_symmetric (SameShape.calls s t) = SameShape.calls (shape_symmetric s) (shape_symmetric t)

    pub shape_transitive : {t u v : Recipe L} → SameShape same t u → SameShape same u v → SameShape same t v
    shape_transitive SameShape.nils SameShape.nils = SameShape.nils
    shape_transitive (SameShape.leaves d) (SameShape.leaves e) = SameShape.leaves (laws.transitive _ _ _ d e)
    shape_transitive SameShape.names SameShape.names = SameShape.names
    shape_transitive (SameShape.binds s) (SameShape.binds t) = SameShape.binds (shape_transitive s t)
    shape_transitive (SameShape.calls s t) (SameShape.calls u v) = SameShape.calls (shape_transitive s u) (shape_transitive t v)

    -- a form does not differ from itself
    pub differ_itself : (f : Form L) → Differ same f f → ⊥
    differ_itself f d = let nils : ℕ → Recipe L = λ p. Recipe.nil in differ_apart nils nils d (shape_reflexive (layer nils nils f))

    -- parts at one step of recipes of one shape
    piece_shapes : {t u : Recipe L} (x y : Part (Recipe L)) → SameShape same t u → In x (recipe_parts t) → In y (recipe_parts u) → x.step ≡ y.step → SameShape same x.at y.at
    piece_shapes x y SameShape.nils i j e = elim i [ ]
    piece_shapes x y (SameShape.leaves h) i j e = elim i [ ]
    piece_shapes x y SameShape.names i j e = elim i [ ]
    piece_shapes x y (SameShape.binds s) (inl i) (inl j) e = rw (i, j) s
    piece_shapes x y (SameShape.binds s) (inl i) (inr j) e = elim j [ ]
    piece_shapes x y (SameShape.binds s) (inr i) j e = elim i [ ]
    piece_shapes x y (SameShape.calls s t) (inl i) (inl j) e = rw (i, j) s
    piece_shapes x y (SameShape.calls s t) (inl i) (inr (inl j)) e = absurd (steps_apart x y i j e)
    piece_shapes x y (SameShape.calls s t) (inl i) (inr (inr j)) e = elim j [ ]
    piece_shapes x y (SameShape.calls s t) (inr (inl i)) (inl j) e = absurd (steps_apart y x j i (sym e))
    piece_shapes x y (SameShape.calls s t) (inr (inl i)) (inr (inl j)) e = rw (i, j) t
    piece_shapes x y (SameShape.calls s t) (inr (inl i)) (inr (inr j)) e = elim j [ ]
    piece_shapes x y (SameShape.calls s t) (inr (inr i)) j e = elim i [ ]

    -- a filling that gives the two places of each pair one shape
    module _ (T : Table L) (θ : Filling L) (rising : Rising T) (pairs : List Pair) (shapes : (pair : Pair) → In pair pairs → SameShape same (filled T θ pair.0) (filled T θ pair.1)) where
      pub linked_shape : {p q : ℕ} → Linked T pairs p q → SameShape same (filled T θ p) (filled T θ q)
      linked_shape Linked.itself = shape_reflexive _
      linked_shape (Linked.back l) = shape_symmetric (linked_shape l)
      linked_shape (Linked.chain l m) = shape_transitive (linked_shape l) (linked_shape m)
      linked_shape (Linked.told i) = shapes _ i
      linked_shape (Linked.one_hole {p = p} {q = q} {h = h} d e) =
          let there : filled T θ p ≡ θ h = filled_layer T θ rising p ∙ ap (layer θ (filled T θ)) d in
          let also : filled T θ q ≡ θ h = filled_layer T θ rising q ∙ ap (layer θ (filled T θ)) e in
          rw (there, also) (shape_reflexive (θ h))
      linked_shape (Linked.one_step {p = p} {q = q} x y l k i j e) =
          piece_shapes (filled_part (filled T θ) x) (filled_part (filled T θ) y) (linked_shape l) (filled_piece T θ rising p x i) (filled_piece T θ rising q y j) e

      pub shapes_no_clash : NoClash same T pairs
      shapes_no_clash p q c =
          differ_apart θ (filled T θ) c.differ (rw (filled_layer T θ rising p, filled_layer T θ rising q) at (linked_shape c.linked))

      -- along steps to linked places and to parts recipes do not grow
      reaches_weight : {p q : ℕ} → Reaches T pairs p q → weight (filled T θ q) ≤ weight (filled T θ p)
      reaches_weight Reaches.here = omega arith
      reaches_weight (Reaches.to_linked l r) = omega (arith, shape_weight (linked_shape l), reaches_weight r)
      reaches_weight (Reaches.to_part {p = p} x i r) = omega (arith, part_weight T θ rising p x i, reaches_weight r)

      pub shapes_no_cycle : NoCycle T pairs
      shapes_no_cycle p c =
          omega (arith, reaches_weight c.there, part_weight T θ rising c.holder c.part c.down, reaches_weight c.return)
