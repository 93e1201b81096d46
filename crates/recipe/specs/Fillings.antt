-- Fillings: what they make of a place, and which pairs they satisfy. Assumes nothing. (docs/RULES.md, "Fillings")
use Rattle.std.specs.Prelude.{ℕ, zero, suc, Bool, List}
use Rattle.recipe.specs.Common.{In}
use Rattle.recipe.specs.Equality.{Equal}
use Rattle.recipe.specs.Recipes.{Recipe}
use Rattle.recipe.specs.Tables.{Form, Table, scope}

-- a finished recipe for every hole number
abbrev pub Filling : Type 0 → Type 0
Filling L = ℕ → Recipe L

-- two places that are to be equal
abbrev pub Pair : Type 0
Pair = ℕ × ℕ

-- the recipe of a form, from those of its parts; a hole's is put in as it stands, so that binders around the hole capture its names
abbrev pub layer : {L : Type 0} → Filling L → (ℕ → Recipe L) → Form L → Recipe L
layer θ part Form.nil = Recipe.nil
layer θ part (Form.leaf l) = Recipe.leaf l
layer θ part (Form.name x) = Recipe.name x
layer θ part (Form.hole h) = θ h
layer θ part (Form.bind a c) = Recipe.bind a (part c)
layer θ part (Form.call c d) = Recipe.call (part c) (part d)

-- the filled text at a place, down to n levels of parts
unfoldable pub filled_within : {L : Type 0} → Table L → Filling L → ℕ → ℕ → Recipe L
filled_within T θ zero p = Recipe.nil
filled_within T θ (suc n) p = layer θ (filled_within T θ n) (T.form p)

-- the filled text at a place (parts are higher places, so as many levels as places are enough: `TableLaws`)
abbrev pub filled : {L : Type 0} → Table L → Filling L → ℕ → Recipe L
filled T θ p = filled_within T θ T.size p

-- a filling satisfies a pair: the two filled places are equal, each in its own scope
abbrev pub Satisfies : {L : Type 0} → (L → L → Bool) → Table L → Filling L → Pair → Type 0
Satisfies same T θ pair = Equal same (scope T pair.0) (filled T θ pair.0) (scope T pair.1) (filled T θ pair.1)

-- a filling satisfies each pair of a list
abbrev pub SatisfiesAll : {L : Type 0} → (L → L → Bool) → Table L → Filling L → List Pair → Type 0
SatisfiesAll same T θ pairs = (pair : Pair) → In pair pairs → Satisfies same T θ pair

-- one filling satisfies all pairs of a list
abbrev pub Satisfiable : {L : Type 0} → (L → L → Bool) → Table L → List Pair → Type 0
Satisfiable {L} same T pairs = (θ : Filling L) × SatisfiesAll same T θ pairs

-- no filling satisfies all pairs of a list
abbrev pub Unsatisfiable : {L : Type 0} → (L → L → Bool) → Table L → List Pair → Type 0
Unsatisfiable same T pairs = Satisfiable same T pairs → ⊥
