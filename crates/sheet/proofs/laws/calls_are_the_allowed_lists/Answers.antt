use Rattle.sheet.proofs.AllowedCalls.{all_allowed}
use Rattle.sheet.proofs.laws.calls_are_the_allowed_lists.Goals as goal

pub returns : goal.returns
returns c = all_allowed
