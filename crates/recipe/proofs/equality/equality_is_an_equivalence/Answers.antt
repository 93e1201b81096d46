use Rattle.recipe.proofs.EqualRecipes.{equivalence}
use Rattle.recipe.proofs.equality.equality_is_an_equivalence.Goals as goal

pub returns : goal.returns
returns g c = equivalence
