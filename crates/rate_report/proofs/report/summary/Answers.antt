use Rattle.std.proofs.Common.{rules, append_assoc}
use Rattle.rate_report.proofs.report.summary.Goals as goal

pub returns : goal.returns
returns c = search (rules, append_assoc)
