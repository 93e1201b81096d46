-- Finished recipes, without holes, over any type of leaves; names are numbers. Assumes nothing. (docs/RULES.md, "Recipes")
use Rattle.std.specs.Prelude.{ℕ, List, [], ◌∷◌, Some, None, Option}

-- a recipe is one of five forms
pub data Recipe (L : Type 0) : Type 0 where
  nil : Recipe L
  leaf : L → Recipe L
  name : ℕ → Recipe L
  bind : ℕ → Recipe L → Recipe L
  call : Recipe L → Recipe L → Recipe L

-- a part of something, the step that leads to it, and the name of the binder that it stands under, if any
pub record Part (X : Type 0) : Type 0 where
  pub step : ℕ
  pub at : X
  pub under : Option ℕ

-- the left part of a call
abbrev pub left : {X : Type 0} → X → Part X
left x = record { step = 0; at = x; under = None }

-- the right part of a call
abbrev pub right : {X : Type 0} → X → Part X
right x = record { step = 1; at = x; under = None }

-- the inside of a bind of the name a
abbrev pub inside : {X : Type 0} → ℕ → X → Part X
inside a x = record { step = 2; at = x; under = Some a }

-- the parts of a recipe
abbrev pub recipe_parts : {L : Type 0} → Recipe L → List (Part (Recipe L))
recipe_parts Recipe.nil = []
recipe_parts (Recipe.leaf l) = []
recipe_parts (Recipe.name x) = []
recipe_parts (Recipe.bind a t) = inside a t ∷ []
recipe_parts (Recipe.call t u) = left t ∷ right u ∷ []
