use Rattle.recipe.proofs.Marking.{Knows}
use Rattle.recipe.proofs.checking.test_places.Given as goal

abbrev pub invariant-loop-p : goal.invariant-loop-p
invariant-loop-p g l = Knows l.places l.leaves l.p l.checker
