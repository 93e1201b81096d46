use Rattle.recipe.proofs.ExactAnswers.{looks_exact, tells_exact}
use Rattle.recipe.proofs.answers.answers_are_exact.Goals as goal

pub returns : goal.returns
returns g c = record { tells = tells_exact; looks = looks_exact }
