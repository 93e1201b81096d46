use Rattle.std.proofs.Common.{◌≡◌, Err, arith, sym, rules}
use Rattle.recipe.specs.Tells.{Tells}
use Rattle.recipe.proofs.Marking.{passed_none, refused_fault}
use Rattle.closure.proofs.OtherLeaves.{no_fault}
use Rattle.sheet.proofs.Whole.{keeps_past}
use Rattle.sheet.proofs.telling.tell.Goals as goal

pub returns-in_err-test_tell-clause-told : goal.returns-in_err-test_tell-clause-told
returns-in_err-test_tell-clause-told c told is solved =
    let at : c.from_residual.result ≡ Err c.in_err-test_tell.field-0.0 = search rules in
    rw at (Tells.refused (refused_fault _ _ (sym (c.in_err-test_tell.ensures told is))))

pub returns-clause-told : goal.returns-clause-told
returns-clause-told c told is solved = Tells.decided (passed_none _ _ (sym (c.in_ok-test_tell.ensures told is))) (c.decide_pair.ensures.decided told is solved)

pub returns-clause-past : goal.returns-clause-past
returns-clause-past c =
    let (told, is, solved) = c.requires.solved in
    let places = no_fault _ told c.args.p c.args.q (passed_none _ _ (sym (c.in_ok-test_tell.ensures told is))) in
    keeps_past c.args.size c.args.names c.args.memory.now c.decide_pair.new.memory (omega (arith, places.0)) c.decide_pair.ensures.past
