use Rattle.closure.proofs.OtherLeaves.{leaves_do_not_matter_lem}
use Rattle.closure.proofs.decision.leaves_do_not_matter.Goals as goal

pub returns : goal.returns
returns g c = leaves_do_not_matter_lem
