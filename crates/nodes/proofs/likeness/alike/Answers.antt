use Rattle.std.proofs.Common.{None, Some, sym, ◌∙◌}
use Rattle.recipe.specs.Alike.{Alikes, HoleAmong}
use Rattle.nodes.specs.LowestHoles.{LeastIfAny}
use Rattle.nodes.specs.Records.{written}
use Rattle.nodes.proofs.AlikeAnswers.{compared, depths_apart, first_past, lowest_among, none_refuses, second_past}
use Rattle.nodes.proofs.likeness.alike.Goals as goal

pub returns-then-p-size : goal.returns-then-p-size
returns-then-p-size c = Alikes.refused (first_past (written c.args.size c.args.words.now) c.args.p c.args.q c.if-p-size.true)

pub returns-then-q-size : goal.returns-then-q-size
returns-then-q-size c = Alikes.refused (second_past (written c.args.size c.args.words.now) c.args.p c.args.q c.if-p-size.false c.if-q-size.true)

pub returns-then-depth : goal.returns-then-depth
returns-then-depth c =
    Alikes.refused
    (depths_apart (written c.args.size c.args.words.now) c.args.p c.args.q c.if-p-size.false c.if-q-size.false
    (λ e. c.if-depth.true (c.depth.ensures ∙ c.heights_at-first.ensures.depth ∙ e ∙ sym (c.depth-2.ensures ∙ c.heights_at-second.ensures.depth))))

pub returns-in-Some : goal.returns-in-Some
returns-in-Some c =
    let T = written c.args.size c.args.words.now in
    Alikes.unfinished
    (none_refuses T c.args.p c.args.q c.if-p-size.false c.if-q-size.false (sym (c.depth.ensures ∙ c.heights_at-first.ensures.depth) ∙ c.if-depth.false ∙ c.depth-2.ensures ∙ c.heights_at-second.ensures.depth))
    (lowest_among T c.args.p c.args.q c.lowest_hole.result c.lowest_hole-2.result (Some c.in-Some.place) c.lowest_hole.ensures c.lowest_hole-2.ensures (sym c.in-Some.is ∙ c.lower.ensures))

pub returns : goal.returns
returns c =
    let T = written c.args.size c.args.words.now in
    let finished : LeastIfAny (HoleAmong T c.args.p c.args.q) None = lowest_among T c.args.p c.args.q c.lowest_hole.result c.lowest_hole-2.result None c.lowest_hole.ensures c.lowest_hole-2.ensures (sym c.in_default.is ∙ c.lower.ensures) in
    compared T c.args.p c.args.q _ c.equal_places.result
    (none_refuses T c.args.p c.args.q c.if-p-size.false c.if-q-size.false (sym (c.depth.ensures ∙ c.heights_at-first.ensures.depth) ∙ c.if-depth.false ∙ c.depth-2.ensures ∙ c.heights_at-second.ensures.depth))
    finished c.equal_places.ensures.equal
