use Rattle.sheet.specs.Calls.{look_entry}
use Rattle.sheet.proofs.Played.{Played}
use Rattle.sheet.proofs.playing.answer_looks.Given as goal

abbrev pub invariant-loop-look : goal.invariant-loop-look
invariant-loop-look l = Played look_entry l.fn.sheet l.fn.looks l.look-index l.looks l.sheet
