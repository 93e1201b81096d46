use Rattle.std.proofs.Common.{◌<◌}
use Rattle.nodes.specs.Records.{written}
use Rattle.nodes.proofs.ScopesClimbed.{Reached}
use Rattle.nodes.proofs.scopes.binder_at.Given as goal

abbrev pub invariant-loop-holder : goal.invariant-loop-holder
invariant-loop-holder l = record { within : l.below < l.size; reached : Reached (written l.size l.words) l.p l.position l.below l.left }

abbrev pub decreases-loop-holder : goal.decreases-loop-holder
decreases-loop-holder l = l.below
