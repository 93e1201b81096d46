use Rattle.std.proofs.Common.{◌∙◌, [], subst}
use Rattle.nodes.specs.Entering.{Entered}
use Rattle.nodes.specs.Records.{written}
use Rattle.sheet.proofs.Exchanged.{entered_joined}
use Rattle.sheet.proofs.Ranges.{records_before}
use Rattle.sheet.proofs.forests.open_copy.Goals as goal

pub open_forests-requires-clause-ordered : goal.open_forests-requires-clause-ordered
open_forests-requires-clause-ordered c =
    rw (c.records_of-words.ensures.records ∙ records_before c.args.size c.marks_start.result _ _ c.marks_start.ensures c.requires.table.room c.split_at_mut-before.ensures.front) c.requires.table.ready.ordered

pub open_forests-requires-clause-binders : goal.open_forests-requires-clause-binders
open_forests-requires-clause-binders c =
    rw (c.records_of-words.ensures.records ∙ records_before c.args.size c.marks_start.result _ _ c.marks_start.ensures c.requires.table.room c.split_at_mut-before.ensures.front) c.requires.table.ready.binders

pub returns-clause-entered : goal.returns-clause-entered
returns-clause-entered c =
    let same = c.records_of-words.ensures.records ∙ records_before c.args.size c.marks_start.result _ _ c.marks_start.ensures c.requires.table.room c.split_at_mut-before.ensures.front in
    entered_joined c.args.size c.open_forests.new.rows c.open_forests.new.names_rows (c.open_forests.auto.rows ∙ c.split_at_mut-rows.ensures.front_len)
    (subst (λ words. Entered (written c.args.size words) c.args.names [] c.open_forests.new.rows c.open_forests.new.names_rows) same c.open_forests.ensures)
