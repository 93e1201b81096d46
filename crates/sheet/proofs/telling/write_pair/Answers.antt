use Rattle.std.proofs.Common.{◌∙◌, ◌+◌, ◌*◌, arith, slice_set}
use lib.Seq.{drop-set-lt}
use Rattle.sheet.proofs.telling.write_pair.Goals as goal

pub returns-clause-kept : goal.returns-clause-kept
returns-clause-kept c =
    drop-set-lt 1024 (slice_set c.args.memory.now (2 * c.args.standing) _) (2 * c.args.standing + 1) _ (omega (arith, c.requires.few)) ∙ drop-set-lt 1024 c.args.memory.now (2 * c.args.standing) _ (omega (arith, c.requires.few))
