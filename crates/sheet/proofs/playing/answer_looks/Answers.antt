use Rattle.std.proofs.Common.{[], Ok, arith}
use Rattle.recipe.specs.declared.labels.Finding.TheVariants.{Label}
use Rattle.recipe.specs.declared.labels.Label.TheVariants.{Nil}
use Rattle.sheet.specs.Calls.{look_entry}
use Rattle.sheet.proofs.Played.{look_untold, played_more}
use Rattle.sheet.proofs.playing.answer_looks.Goals as goal

pub loop-look-preserved : goal.loop-look-preserved
loop-look-preserved c =
    played_more look_entry c.args.sheet.now c.args.looks.now c.loop-look.invariant (omega (arith, c.loop-look.invariant.long, c.loop-look-test.true)) (record { place = 0; path = record { ref_ptr = (0, 0); now = [] }; answer = Ok (Label Nil) }) c.answer_look.new.look c.args.sheet.now c.answer_look.ensures.asked c.answer_look.ensures.right (look_untold c.args.sheet.now c.answer_look.new.look)
