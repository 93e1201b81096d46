use Rattle.std.proofs.Common.{length}
use Rattle.listing.proofs.answers.+tell_pairs.Given as goal

abbrev pub decreases-tell_pairs : goal.decreases-tell_pairs
decreases-tell_pairs l = length l.roots.now
