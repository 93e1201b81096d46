use Rattle.std.proofs.Common.{sym, arith}
use Rattle.recipe.proofs.UnknownSteps.{unknown_found, unknown_none}
use Rattle.sheet.proofs.looking.first_unknown_step.Goals as goal

pub returns-then-step-gt2 : goal.returns-then-step-gt2
returns-then-step-gt2 c = sym (unknown_found c.args.path.now c.loop-index.index c.loop-index-test.true c.if-step-gt2.true c.loop-index.invariant)

pub returns : goal.returns
returns c = sym (unknown_none c.args.path.now (λ k h. c.loop-index.invariant k (omega (arith, c.loop-index-test.false, h))))
