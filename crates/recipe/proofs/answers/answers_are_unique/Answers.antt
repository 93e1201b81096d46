use Rattle.recipe.proofs.OneAnswer.{looks_once, tells_once}
use Rattle.recipe.proofs.answers.answers_are_unique.Goals as goal

pub returns : goal.returns
returns g c = record { tells = tells_once; looks = looks_once }
