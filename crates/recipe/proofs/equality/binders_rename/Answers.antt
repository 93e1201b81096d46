use Rattle.recipe.proofs.EqualRecipes.{binders_rename_lem}
use Rattle.recipe.proofs.equality.binders_rename.Goals as goal

pub returns : goal.returns
returns g c = binders_rename_lem
