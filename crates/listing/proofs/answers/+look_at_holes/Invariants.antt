use Rattle.std.proofs.Common.{length}
use Rattle.listing.proofs.answers.+look_at_holes.Given as goal

abbrev pub decreases-look_at_holes : goal.decreases-look_at_holes
decreases-look_at_holes l = length l.holes.now
