use Rattle.closure.proofs.MatchingDecided.{decides}
use Rattle.closure.proofs.decision.matching_is_decided.Goals as goal

pub returns : goal.returns
returns g c = decides
