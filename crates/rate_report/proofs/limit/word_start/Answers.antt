use Rattle.std.proofs.Common.{rules}
use Rattle.rate_report.proofs.Prefixes.{break_found}
use Rattle.rate_report.proofs.limit.word_start.Goals as goal

pub returns-clause-start : goal.returns-clause-start
returns-clause-start c = break_found c.args.text.now c.rposition.result c.map_or.result (search rules) (search rules)
