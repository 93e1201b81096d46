use Rattle.recipe.proofs.EqualRecipes.{covered_rename}
use Rattle.recipe.proofs.equality.covered_binders_rename.Goals as goal

pub returns : goal.returns
returns g c = covered_rename
