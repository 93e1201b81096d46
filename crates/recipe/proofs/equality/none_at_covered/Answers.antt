use Rattle.recipe.proofs.EqualScopes.{none_at_covered_lem}
use Rattle.recipe.proofs.equality.none_at_covered.Goals as goal

pub returns : goal.returns
returns c = none_at_covered_lem
