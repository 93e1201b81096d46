use Rattle.std.proofs.Common.{◌∙◌, length, subst}
use Rattle.recipe.specs.Histories.{sheet_table}
use Rattle.recipe.specs.Promise.{Promised}
use Rattle.recipe.specs.Sameness.{Sameness}
use Rattle.recipe.proofs.PromiseKept.{promise_kept}
use Rattle.sheet.specs.Calls.{entries}
use Rattle.sheet.proofs.RightPlay.{answer_of_taken, right_play}
use Rattle.sheet.proofs.playing.play.Goals as goal

pub returns-clause-opened : goal.returns-clause-opened
returns-clause-opened g c =
    c.answer_all.ensures.opened ∙ c.open.ensures.opened
    ∙ answer_of_taken c.args.places.now c.args.leaves.now (length c.args.memory.now) (length c.split_at_mut-words.result.0.now) (c.split_at_mut-words.ensures.front_len ∙ c.words_taken-taken.ensures.value)

pub returns-clause-run : goal.returns-clause-run
returns-clause-run g c =
    let laws : Sameness g.L.Leaf.equates = record {
      reflexive = g.met.L.Leaf.reflexive;
      symmetric = g.met.L.Leaf.symmetric;
      transitive = g.met.L.Leaf.transitive;
    } in
    record {
      answered = c.answer_all.ensures.asked;
      right =
          right_play g.L.Leaf.equates laws c.args.places.now c.args.leaves.now (length c.args.memory.now) (length c.split_at_mut-words.result.0.now) c.open.result (entries c.answer_all.new.calls) (c.split_at_mut-words.ensures.front_len ∙ c.words_taken-taken.ensures.value) c.open.ensures.table c.open.ensures.told c.answer_all.ensures.right;
    }

pub returns-clause-promise : goal.returns-clause-promise
returns-clause-promise g c =
    let laws : Sameness g.L.Leaf.equates = record {
      reflexive = g.met.L.Leaf.reflexive;
      symmetric = g.met.L.Leaf.symmetric;
      transitive = g.met.L.Leaf.transitive;
    } in
    let T = sheet_table c.args.places.now c.args.leaves.now (length c.args.memory.now) in
    let kept = promise_kept g.L.Leaf.equates T c.args.leaves.now (entries c.answer_all.new.calls)
    (right_play g.L.Leaf.equates laws c.args.places.now c.args.leaves.now (length c.args.memory.now) (length c.split_at_mut-words.result.0.now) c.open.result (entries c.answer_all.new.calls) (c.split_at_mut-words.ensures.front_len ∙ c.words_taken-taken.ensures.value) c.open.ensures.table c.open.ensures.told c.answer_all.ensures.right) in
    subst (λ calls. Promised g.L.Leaf.equates T c.args.leaves.now calls (entries c.answer_all.new.calls)) c.answer_all.ensures.asked kept
