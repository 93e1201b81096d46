use Rattle.std.proofs.Common.{Ok, rules}
use Rattle.recipe.proofs.Validation.{answer_valid}
use Rattle.recipe.proofs.checking.check.Goals as goal

pub returns-in_err-test_places-clause-valid : goal.returns-in_err-test_places-clause-valid
returns-in_err-test_places-clause-valid g c = answer_valid c.args.places.now c.args.leaves.now c.from_residual.result (search rules)

pub returns-clause-valid : goal.returns-clause-valid
returns-clause-valid g c = answer_valid c.args.places.now c.args.leaves.now (Ok c.needed_memory.result) (search rules)
