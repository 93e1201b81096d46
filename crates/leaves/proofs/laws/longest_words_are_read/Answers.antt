use Rattle.std.proofs.Common.{refl}
use Rattle.leaves.specs.RateReading.{rate_after, rate_of}
use Rattle.leaves.proofs.laws.longest_words_are_read.Goals as goal

pub returns-clause-rate : goal.returns-clause-rate
unfolding rate_after rate_of
returns-clause-rate c = refl
