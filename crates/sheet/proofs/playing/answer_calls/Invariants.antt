use Rattle.sheet.specs.Calls.{entry_of}
use Rattle.sheet.proofs.Played.{Played}
use Rattle.sheet.proofs.playing.answer_calls.Given as goal

abbrev pub invariant-loop-call : goal.invariant-loop-call
invariant-loop-call l = Played entry_of l.fn.sheet l.fn.calls l.call-index l.calls l.sheet
