use Rattle.std.proofs.Common.{◌<◌}
use Rattle.nodes.specs.Records.{written}
use Rattle.nodes.proofs.ScopesClimbed.{Passed}
use Rattle.nodes.proofs.scopes.depth_of.Given as goal

abbrev pub invariant-loop-holder : goal.invariant-loop-holder
invariant-loop-holder l = record { within : l.below < l.size; passed : Passed (written l.size l.words) l.p l.below l.count }

abbrev pub decreases-loop-holder : goal.decreases-loop-holder
decreases-loop-holder l = l.below
