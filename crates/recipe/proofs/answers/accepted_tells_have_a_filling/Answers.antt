use Rattle.recipe.proofs.AcceptedTells.{accepted_satisfiable}
use Rattle.recipe.proofs.answers.accepted_tells_have_a_filling.Goals as goal

pub returns : goal.returns
returns g c = accepted_satisfiable
