-- The height of each name in a scope, and a table that has the heights of the names below 64. Assumes nothing. (docs/RULES.md, "Alike")
use Rattle.std.specs.Prelude.{◌≡◌, ℕ, suc, ◌<◌, cond, [], ◌∷◌, length, Some, ◌==◌, slice_index}
use Rattle.recipe.specs.Common.{In}
use Rattle.recipe.specs.Recipes.{Part}
use Rattle.recipe.specs.Scopes.{Scope}
use Rattle.recipe.specs.Tables.{Form, Table, parts}
use Rattle.nodes.specs.declared.heights.Heights.{Heights}

-- the height of the innermost binder of a name, where binders are counted from 1, the outermost first; 0 where the name is free
abbrev pub height : Scope → ℕ → ℕ
height [] x = 0
height (a ∷ Φ) x = cond (a == x) (suc (length Φ)) (height Φ x)

-- the heights of the names below 64 in a scope, and the length of the scope
pub record HasHeights (Φ : Scope) (heights : Heights) : Type 0 where
  pub depth : heights.depth ≡ length Φ
  pub of : (x : ℕ) → x < 64 → slice_index heights.of x ≡ height Φ x

-- all names of a table are below 64, those of names and those of binders
pub record FewNames {L : Type 0} (T : Table L) : Type 0 where
  pub names : (p x : ℕ) → T.form p ≡ Form.name x → x < 64
  pub binders : (p a : ℕ) (y : Part ℕ) → In y (parts (T.form p)) → y.under ≡ Some a → a < 64
