use Rattle.recipe.proofs.PromiseKept.{promise_kept}
use Rattle.recipe.proofs.answers.right_histories_keep_the_promise.Goals as goal

pub returns : goal.returns
returns g c = promise_kept
