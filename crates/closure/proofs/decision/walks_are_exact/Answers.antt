use Rattle.closure.proofs.WalksExact.{walks_exact}
use Rattle.closure.proofs.decision.walks_are_exact.Goals as goal

pub returns : goal.returns
returns g c = walks_exact
