-- The label of a finished recipe at a path. Assumes nothing. (docs/RULES.md, "Labels")
use Rattle.std.specs.Prelude.{ℕ, suc, ◌-◌, find, List, [], ◌∷◌, length, Some, None, Option, ◌==◌}
use Rattle.recipe.specs.declared.labels.Label.{Label}
use Rattle.recipe.specs.Recipes.{Recipe, Part, recipe_parts}
use Rattle.recipe.specs.Scopes.{Scope, extended, inner}

-- the part to which a step leads, if there is one
abbrev pub part_at : {X : Type 0} → ℕ → List (Part X) → Option (Part X)
part_at s = find (λ x. x.step == s)

-- a name, by its inner number among the binders passed: free, or local with the level of its binder, counted from the outermost
abbrev pub name_label : Scope → ℕ → Option ℕ → Label
name_label passed x None = Label.Name x
name_label passed x (Some k) = Label.Local (length passed - suc k)

-- the label of a recipe below the binders passed, with a number, or none, for each leaf
abbrev pub label_of : {L : Type 0} → (L → Option ℕ) → Scope → Recipe L → Label
label_of number passed Recipe.nil = Label.Nil
label_of number passed (Recipe.leaf l) = Label.Leaf (number l)
label_of number passed (Recipe.name x) = name_label passed x (inner passed x)
label_of number passed (Recipe.bind a t) = Label.Bind
label_of number passed (Recipe.call t u) = Label.Call

-- what is found at a part, or nothing where there is no part
abbrev pub at_part : {L : Type 0} → (Scope → Recipe L → Option Label) → Scope → Option (Part (Recipe L)) → Option Label
at_part find passed None = None
at_part find passed (Some x) = find (extended x.under passed) x.at

-- the label at the spot that a path leads to, or none where the path leads out of the recipe
unfoldable pub label_below : {L : Type 0} → (L → Option ℕ) → List ℕ → Scope → Recipe L → Option Label
label_below number [] passed t = Some (label_of number passed t)
label_below number (s ∷ path) passed t = at_part (label_below number path) passed (part_at s (recipe_parts t))

-- the label at a path, from the whole recipe down
abbrev pub label_at : {L : Type 0} → (L → Option ℕ) → Recipe L → List ℕ → Option Label
label_at number t path = label_below number path [] t
