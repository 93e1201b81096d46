use Rattle.std.proofs.Common.{◌∙◌, [], ◌∷◌, ◌++◌}
use Rattle.nodes.specs.Entering.{Entered}
use Rattle.nodes.specs.Records.{written}
use Rattle.sheet.proofs.Exchanged.{entered_joined, exchanged}
use Rattle.sheet.proofs.Ranges.{records_before}
use Rattle.sheet.proofs.forests.enter_copy.Goals as goal

pub enter_pair-requires-clause-ordered : goal.enter_pair-requires-clause-ordered
enter_pair-requires-clause-ordered c =
    rw (c.records_of-words.ensures.records ∙ records_before c.args.size c.marks_start.result _ _ c.marks_start.ensures c.requires.table.room c.split_at_mut-before.ensures.front) c.requires.table.ready.ordered

pub enter_pair-requires-clause-holders : goal.enter_pair-requires-clause-holders
enter_pair-requires-clause-holders c =
    rw (c.records_of-words.ensures.records ∙ records_before c.args.size c.marks_start.result _ _ c.marks_start.ensures c.requires.table.room c.split_at_mut-before.ensures.front) c.requires.table.holders

pub enter_pair-requires-clause-binders : goal.enter_pair-requires-clause-binders
enter_pair-requires-clause-binders c =
    rw (c.records_of-words.ensures.records ∙ records_before c.args.size c.marks_start.result _ _ c.marks_start.ensures c.requires.table.room c.split_at_mut-before.ensures.front) c.requires.table.ready.binders

pub enter_pair-requires-clause-entered : goal.enter_pair-requires-clause-entered
enter_pair-requires-clause-entered c =
    rw (c.records_of-words.ensures.records ∙ records_before c.args.size c.marks_start.result _ _ c.marks_start.ensures c.requires.table.room c.split_at_mut-before.ensures.front) (rw c.split_at_mut-rows.ensures.front (rw c.split_at_mut-rows.ensures.back c.requires.entered))

pub returns-clause-entered : goal.returns-clause-entered
returns-clause-entered c told entered =
    let same = c.records_of-words.ensures.records ∙ records_before c.args.size c.marks_start.result _ _ c.marks_start.ensures c.requires.table.room c.split_at_mut-before.ensures.front in
    entered_joined c.args.size c.enter_pair.new.rows c.enter_pair.new.names_rows (c.enter_pair.auto.rows ∙ c.split_at_mut-rows.ensures.front_len)
    (exchanged (λ words rows names_rows. Entered (written c.args.size words) c.args.names told rows names_rows → Entered (written c.args.size words) c.args.names (told ++ ((c.args.p, c.args.q) ∷ [])) c.enter_pair.new.rows c.enter_pair.new.names_rows)
    same c.split_at_mut-rows.ensures.front c.split_at_mut-rows.ensures.back (λ before. c.enter_pair.ensures told before) entered)
