use Rattle.std.proofs.Common.{◌-◌}
use Rattle.nodes.proofs.likeness.+equal_places.Given as goal

abbrev pub decreases-equal_places : goal.decreases-equal_places
decreases-equal_places l = l.size - l.p
