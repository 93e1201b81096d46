use Rattle.std.proofs.Common.{◌-◌}
use Rattle.nodes.proofs.lowest_hole.+lowest_hole.Given as goal

abbrev pub decreases-lowest_hole : goal.decreases-lowest_hole
decreases-lowest_hole l = l.size - l.p
