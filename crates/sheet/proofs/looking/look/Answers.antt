use Rattle.std.proofs.Common.{nat_eq, sym}
use Rattle.std.specs.List.{range_with_len}
use Rattle.recipe.specs.Looks.{Looks}
use Rattle.closure.proofs.WalksExact.{walks_exact}
use Rattle.nodes.proofs.LeafNumbers.{nat_sameness}
use Rattle.sheet.specs.Solved.{written_table}
use Rattle.recipe.proofs.UnknownSteps.{no_fault, past_fault, step_fault}
use Rattle.sheet.proofs.looking.look.Goals as goal

pub returns-then-place-size : goal.returns-then-place-size
returns-then-place-size c told solved = Looks.refused (past_fault (written_table c.args.size c.args.memory.now) c.args.place c.args.path.now c.if-place-size.true)

pub returns-in-Some : goal.returns-in-Some
returns-in-Some c told solved =
    Looks.refused (step_fault (written_table c.args.size c.args.memory.now) c.args.place c.args.path.now c.in-Some.index c.if-place-size.false (sym c.in-Some.ensures))

pub returns-in-None : goal.returns-in-None
returns-in-None c told solved =
    let table = written_table c.args.size c.args.memory.now in
    let fault = no_fault table c.args.place c.args.path.now c.if-place-size.false (sym c.in-None.ensures) in
    ((walks_exact nat_eq nat_sameness table (range_with_len 0 c.args.leaves) c.args.names told c.args.place c.args.path.now solved.ready solved.filled fault).right c.find.result).0 (c.find.ensures told solved)
