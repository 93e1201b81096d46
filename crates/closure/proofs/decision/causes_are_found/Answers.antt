use Rattle.closure.proofs.CausesFound.{causes_exact}
use Rattle.closure.proofs.decision.causes_are_found.Goals as goal

pub returns : goal.returns
returns g c = causes_exact
