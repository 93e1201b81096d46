use Rattle.std.proofs.Common.{rules, arith}
use Rattle.std.proofs.lemmas.Bool.Decides.{nat_tests}
use Rattle.std.proofs.lemmas.Iterator.{YieldsList-from_slice}
use Rattle.leaves.proofs.NumeralRead.{may_be_called, number_read}
use Rattle.leaves.proofs.rate.numeral.Goals as goal

pub try_fold-requires-clause-callable : goal.try_fold-requires-clause-callable
try_fold-requires-clause-callable c =
    may_be_called _ (λ f n x r h k. search rules) (λ f n x small. search rules) _ c.args.digits.now _ (YieldsList-from_slice c.args.digits.now c.iter.ensures.rest) (grind (arith, nat_tests))

pub returns : goal.returns
returns c =
    let read = number_read _ (λ f n x r h k. search rules) _ _ c.args.digits.now _ c.try_fold.result (YieldsList-from_slice c.args.digits.now c.iter.ensures.rest) c.try_fold.ensures.ran in
    grind (arith, nat_tests, read)
