use Rattle.closure.proofs.ValidTables.{valid_well_formed}
use Rattle.closure.proofs.decision.valid_tables_are_well_formed.Goals as goal

pub returns : goal.returns
returns g c = valid_well_formed
