use Rattle.std.proofs.Common.{◌<◌}
use Rattle.nodes.specs.Records.{written}
use Rattle.nodes.proofs.ScopesClimbed.{Counted}
use Rattle.nodes.proofs.scopes.inner_number.Given as goal

abbrev pub invariant-loop-holder : goal.invariant-loop-holder
invariant-loop-holder l = record { within : l.below < l.size; counted : Counted (written l.size l.words) l.p l.name l.below l.passed }

abbrev pub decreases-loop-holder : goal.decreases-loop-holder
decreases-loop-holder l = l.below
