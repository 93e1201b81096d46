-- The text of a form: when two texts are one, what is free in a text, and what parts it has. Assumes nothing.
use Rattle.std.proofs.Common.{◌≡◌, ℕ, ◌≢◌, ◌⊎◌, List, Some, sym, refl, ap, ◌∙◌, inl, inr}
use Rattle.std.proofs.lemmas.Option.{none-some}
use Rattle.recipe.specs.Common.{In}
use Rattle.recipe.specs.Fillings.{Filling, Pair, filled, layer}
use Rattle.recipe.specs.Links.{kind_of}
use Rattle.recipe.specs.Recipes.{Recipe, Part, left, right, inside, recipe_parts}
use Rattle.recipe.specs.Tables.{Form, Table, parts}
use Rattle.recipe.proofs.Filled.{filled_layer}
use Rattle.recipe.proofs.Shapes.{filled_part}
use Rattle.closure.specs.Decision.{WellFormed}
use Rattle.closure.proofs.Forms.{only, rising}
use Rattle.closure.proofs.Relations.{FreeAt, name_free}

-- a form has one text by two fillings that agree on its hole, from parts that have one text
pub layer_same : {L : Type 0} (θ ξ : Filling L) (f g : ℕ → Recipe L) (form : Form L) → ((h : ℕ) → form ≡ Form.hole h → θ h ≡ ξ h) → ((y : Part ℕ) → In y (parts form) → f y.at ≡ g y.at) → layer θ f form ≡ layer ξ g form
layer_same θ ξ f g (Form.hole h) holes agree = holes h refl
layer_same θ ξ f g (Form.bind a c) holes agree = ap (Recipe.bind a) (agree (inside a c) (inl refl))
layer_same θ ξ f g (Form.call c d) holes agree = let l = agree (left c) (inl refl) in let r = agree (right d) (inr (inl refl)) in cc
layer_same θ ξ f g form holes agree = refl

-- what is free in the text of a form that is no hole is its name, or free in the text of a part of which it is not the binder
pub layer_free : {L : Type 0} (θ : Filling L) (f : ℕ → Recipe L) (form : Form L) (path : List ℕ) (x : ℕ) → kind_of form ≢ 3 → FreeAt (layer θ f form) path x → (form ≡ Form.name x) ⊎ ((y : Part ℕ) × In y (parts form) × (y.under ≢ Some x) × (rest : List ℕ) × FreeAt (f y.at) rest x)
layer_free θ f (Form.name y) path x n free = inl (ap Form.name (sym (name_free free)))
layer_free θ f (Form.hole h) path x n free = absurd (n refl)
layer_free θ f (Form.bind a c) path x n (FreeAt.inside {path = rest} other free) = inr (inside a c, inl refl, λ e. other cc, rest, free)
layer_free θ f (Form.call c d) path x n (FreeAt.left {path = rest} free) = inr (left c, inl refl, none-some x, rest, free)
layer_free θ f (Form.call c d) path x n (FreeAt.right {path = rest} free) = inr (right d, inr (inl refl), none-some x, rest, free)
layer_free θ f form path x n free = elim free [ ]

-- the parts of the text of a form that is no hole are its parts
pub layer_parts : {L : Type 0} (θ : Filling L) (f : ℕ → Recipe L) (form : Form L) (z : Part (Recipe L)) → kind_of form ≢ 3 → In z (recipe_parts (layer θ f form)) → (y : Part ℕ) × In y (parts form) × (z ≡ filled_part f y)
layer_parts θ f (Form.hole h) z n i = absurd (n refl)
layer_parts θ f (Form.bind a c) z n i = (inside a c, inl refl, only i)
layer_parts θ f (Form.call c d) z n (inl i) = (left c, inl refl, i)
layer_parts θ f (Form.call c d) z n (inr i) = (right d, inr (inl refl), only i)
layer_parts θ f form z n i = absurd i

-- the filled text of a place of a known form
pub filled_form : {L : Type 0} {T : Table L} {m : ℕ} {pairs : List Pair} → WellFormed T m pairs → (θ : Filling L) {p : ℕ} {f : Form L} → T.form p ≡ f → filled T θ p ≡ layer θ (filled T θ) f
filled_form {T = T} ready θ {p = p} e = filled_layer T θ (rising ready) p ∙ ap (layer θ (filled T θ)) e
