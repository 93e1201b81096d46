use Rattle.std.proofs.Common.{sym, ap, ◌∙◌, arith, get_or, ◌*◌, ◌+◌}
use Rattle.recipe.specs.Kinds.{code_of}
use Rattle.nodes.specs.Records.{written}
use Rattle.recipe.specs.Alike.{HoleWithin}
use Rattle.nodes.proofs.FormsWritten.{bind_there, call_there, inside_up, kind_there, left_up, right_up}
use Rattle.nodes.proofs.LowestHolesFound.{hole_here, hole_in_call, hole_inside, lower_least}
use Rattle.nodes.proofs.lowest_hole.+lowest_hole.Goals as goal

pub lowest_hole-requires : goal.lowest_hole-requires
lowest_hole-requires t c =
    let up = inside_up c.args.size c.args.words.now c.args.p c.requires.place c.requires.ordered (sym c.kind_at.ensures ∙ ap code_of c.in-Bind.is) in
    (omega (arith, c.decreases), (c.requires.rows, (c.requires.ordered, up.1)))

pub lowest_hole-requires-in-Call : goal.lowest_hole-requires-in-Call
lowest_hole-requires-in-Call t c =
    let up = left_up c.args.size c.args.words.now c.args.p c.requires.place c.requires.ordered (sym c.kind_at.ensures ∙ ap code_of c.in-Call.is) in
    (omega (arith, c.decreases), (c.requires.rows, (c.requires.ordered, up.1)))

pub lowest_hole-requires-in-Call-2 : goal.lowest_hole-requires-in-Call-2
lowest_hole-requires-in-Call-2 t c =
    let up = right_up c.args.size c.args.words.now c.args.p c.requires.place c.requires.ordered (sym c.kind_at.ensures ∙ ap code_of c.in-Call.is) in
    (omega (arith, c.decreases), (c.requires.rows, (c.requires.ordered, up.1)))

pub returns-in-Hole : goal.returns-in-Hole
returns-in-Hole t c =
    hole_here (written c.args.size c.args.words.now) c.requires.ordered c.args.p
    (kind_there c.args.size c.args.words.now c.args.p c.requires.place ∙ sym c.kind_at.ensures ∙ ap code_of c.in-Hole.is)

pub returns-in-Bind : goal.returns-in-Bind
returns-in-Bind t c =
    hole_inside (written c.args.size c.args.words.now) c.args.p (get_or c.args.words.now (8 * c.args.p + 1) 0) (get_or c.args.words.now (8 * c.args.p + 2) 0) c.lowest_hole.result
    (bind_there c.args.size c.args.words.now c.args.p c.requires.place (sym c.kind_at.ensures ∙ ap code_of c.in-Bind.is)) c.lowest_hole.ensures

pub returns-in-Call : goal.returns-in-Call
returns-in-Call t c =
    let first = get_or c.args.words.now (8 * c.args.p + 1) 0 in
    let second = get_or c.args.words.now (8 * c.args.p + 2) 0 in
    hole_in_call (written c.args.size c.args.words.now) c.args.p first second c.lower.result
    (call_there c.args.size c.args.words.now c.args.p c.requires.place (sym c.kind_at.ensures ∙ ap code_of c.in-Call.is))
    (rw c.lower.ensures
    (lower_least (HoleWithin (written c.args.size c.args.words.now) first) (HoleWithin (written c.args.size c.args.words.now) second) c.lowest_hole-in-Call.result c.lowest_hole-in-Call-2.result c.lowest_hole-in-Call.ensures c.lowest_hole-in-Call-2.ensures))
