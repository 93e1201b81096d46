use Rattle.std.proofs.Common.{arith, rules}
use Rattle.std.proofs.lemmas.List.Sums.{prefix_len-le-length}
use Rattle.std.specs.Char.{is_ascii_digit}
use Rattle.leaves.specs.RateReading.{rate_of}
use Rattle.leaves.specs.RatesLemmas.{spelled_by}
use Rattle.leaves.proofs.rate.RateLeaf.read.Goals as goal

pub split_at-requires : goal.split_at-requires
split_at-requires c = omega (arith, c.leading_digits.ensures, prefix_len-le-length is_ascii_digit c.args.word.now)

pub returns-clause-spelled : goal.returns-clause-spelled
unfolding rate_of
returns-clause-spelled c = spelled_by c.args.word.now c.rate_after.result (search rules)
