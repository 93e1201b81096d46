use Rattle.std.proofs.Common.{Ok, arith}
use Rattle.sheet.specs.Calls.{entry_of}
use Rattle.sheet.specs.declared.calls.Call.TheVariants.{Tell}
use Rattle.sheet.proofs.Played.{played_more}
use Rattle.sheet.proofs.playing.answer_calls.Goals as goal

pub loop-call-preserved : goal.loop-call-preserved
loop-call-preserved c =
    played_more entry_of c.args.sheet.now c.args.calls.now c.loop-call.invariant (omega (arith, c.loop-call.invariant.long, c.loop-call-test.true)) (Tell (record { first = 0; second = 0; answer = Ok tt })) c.answer_call.new.call c.answer_call.new.sheet c.answer_call.ensures.asked c.answer_call.ensures.right c.answer_call.ensures.sheet
