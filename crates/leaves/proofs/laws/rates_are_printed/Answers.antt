use Rattle.leaves.proofs.RatesPrinted.{rates_read_back}
use Rattle.leaves.proofs.laws.rates_are_printed.Goals as goal

pub returns : goal.returns
returns c = rates_read_back
