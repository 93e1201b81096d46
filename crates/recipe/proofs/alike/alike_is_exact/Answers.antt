use Rattle.recipe.proofs.AlikeExact.{alikes_exact, alikes_once}
use Rattle.recipe.proofs.alike.alike_is_exact.Goals as goal

pub returns-clause-once : goal.returns-clause-once
returns-clause-once g c = alikes_once

pub returns-clause-exact : goal.returns-clause-exact
returns-clause-exact g c = alikes_exact
