use Rattle.std.proofs.Common.{sym, arith}
use Rattle.nodes.proofs.HoldersSet.{bind_held, bind_row, call_held, left_row, right_row}
use Rattle.nodes.proofs.scopes.hold_parts.Goals as goal

pub set_holder-requires-clause-row : goal.set_holder-requires-clause-row
set_holder-requires-clause-row c = bind_row c.args.words.now c.args.p (sym c.in-Bind.ensures) c.requires.inside

pub set_holder-requires-in-Call-clause-row : goal.set_holder-requires-in-Call-clause-row
set_holder-requires-in-Call-clause-row c = left_row c.args.words.now c.args.p (sym c.in-Call.ensures) c.requires.inside

pub set_holder-requires-in-Call-2-clause-row : goal.set_holder-requires-in-Call-2-clause-row
set_holder-requires-in-Call-2-clause-row c =
    let row = right_row c.args.words.now c.args.p (sym c.in-Call.ensures) c.requires.inside in omega arith

pub returns-in-Bind : goal.returns-in-Bind
returns-in-Bind c = bind_held c.args.words.now c.args.p c.set_holder.new.words (sym c.in-Bind.ensures) c.set_holder.ensures

pub returns-in-Call : goal.returns-in-Call
returns-in-Call c =
    call_held c.args.words.now c.args.p c.set_holder-in-Call.new.words c.set_holder-in-Call-2.new.words (sym c.in-Call.ensures) c.set_holder-in-Call.ensures c.set_holder-in-Call-2.ensures
