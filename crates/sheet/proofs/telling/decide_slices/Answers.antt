use Rattle.std.proofs.Common.{◌∙◌, subst, sym, arith, rules}
use Rattle.nodes.specs.Records.{written}
use Rattle.sheet.specs.Solved.{EnteredIn}
use Rattle.sheet.proofs.Told.{accepts, as_before, one_more, records_kept, records_written, refuses, table_written}
use Rattle.sheet.proofs.telling.decide_slices.Goals as goal

pub enter_copy-requires-clause-table : goal.enter_copy-requires-clause-table
enter_copy-requires-clause-table c =
    let (told, is, ready, hold) = c.requires.hold in
    table_written hold c.tell_copy-answer.new.front c.tell_copy-answer.auto.front c.tell_copy-answer.ensures.kept c.args.p c.args.q c.write_pair.new.memory c.write_pair.auto.memory c.write_pair.ensures.kept

pub enter_copy-requires-clause-entered : goal.enter_copy-requires-clause-entered
enter_copy-requires-clause-entered c =
    let (told, is, ready, hold) = c.requires.hold in
    let same = records_written c.args.size c.args.front.now c.tell_copy-answer.new.front hold.table.room c.write_pair.new.memory c.tell_copy-answer.auto.front c.tell_copy-answer.ensures.kept c.write_pair.ensures.kept in
    (told, subst (λ ws. EnteredIn (written c.args.size ws) c.args.names told c.args.second.now) (sym same) hold.second)

pub returns-then-is_ok-clause-records : goal.returns-then-is_ok-clause-records
returns-then-is_ok-clause-records c =
    let (told, is, ready, hold) = c.requires.hold in
    let room = (table_written hold c.tell_copy-answer.new.front c.tell_copy-answer.auto.front c.tell_copy-answer.ensures.kept c.args.p c.args.q c.write_pair.new.memory c.write_pair.auto.memory c.write_pair.ensures.kept).room in
    records_kept c.args.size c.write_pair.new.memory c.enter_copy.new.front room c.enter_copy.auto.front c.enter_copy.ensures.kept
    ∙ records_written c.args.size c.args.front.now c.tell_copy-answer.new.front hold.table.room c.write_pair.new.memory c.tell_copy-answer.auto.front c.tell_copy-answer.ensures.kept c.write_pair.ensures.kept

pub returns-else-is_ok-clause-records : goal.returns-else-is_ok-clause-records
returns-else-is_ok-clause-records c =
    let (told, is, ready, hold) = c.requires.hold in
    records_kept c.args.size c.args.front.now c.tell_copy-answer.new.front hold.table.room c.tell_copy-answer.auto.front c.tell_copy-answer.ensures.kept

pub returns-then-is_ok-clause-hold : goal.returns-then-is_ok-clause-hold
returns-then-is_ok-clause-hold c told is hold =
    let ok = accepts c.tell_copy-answer.result (search rules) in
    let same = records_written c.args.size c.args.front.now c.tell_copy-answer.new.front hold.table.room c.write_pair.new.memory c.tell_copy-answer.auto.front c.tell_copy-answer.ensures.kept c.write_pair.ensures.kept in
    rw ok
    (one_more hold c.tell_copy-answer.new.front c.tell_copy-answer.auto.front c.tell_copy-answer.ensures.kept c.args.p c.args.q c.write_pair.new.memory c.write_pair.auto.memory c.write_pair.ensures.kept
    (rw is c.requires.few) (rw is c.write_pair.ensures.pairs) c.enter_copy.auto.front c.enter_copy.ensures.kept
    (c.tell_copy-answer.ensures.entered told hold.first ok)
    (c.enter_copy.ensures.entered told (subst (λ ws. EnteredIn (written c.args.size ws) c.args.names told c.args.second.now) (sym same) hold.second)))

pub returns-else-is_ok-clause-hold : goal.returns-else-is_ok-clause-hold
returns-else-is_ok-clause-hold c told is hold =
    rw (refuses told c.args.p c.args.q c.tell_copy-answer.result (λ ok. search rules))
    (rw c.copy_from_slice.ensures.after (as_before hold c.tell_copy-answer.new.front c.tell_copy-answer.auto.front c.tell_copy-answer.ensures.kept (omega (arith, is, c.requires.few))))
