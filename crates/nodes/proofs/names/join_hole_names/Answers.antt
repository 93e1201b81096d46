use Rattle.std.proofs.Common.{◌≡◌, ◌+◌, ◌*◌, slice_index, true, false, [], sym, ap, ◌∙◌, arith}
use Rattle.recipe.specs.Tables.{Form}
use Rattle.nodes.specs.Records.{written}
use Rattle.nodes.specs.NameClasses.{name_parts}
use Rattle.nodes.proofs.FirstRows.{form_written}
use Rattle.nodes.proofs.HoleNames.{always_done, hole_inside, holes_more, holes_none, holes_skip, lowest_written}
use Rattle.nodes.proofs.NameNumbers.{names_end}
use Rattle.nodes.proofs.PlaceParts.{written_hole}
use Rattle.nodes.proofs.names.join_hole_names.Goals as goal
use Rattle.nodes.proofs.names.join_hole_names.Goals.{then-is_hole, else-is_hole}

pub loop-p-init : goal.loop-p-init
loop-p-init c = holes_none (written c.args.size c.args.words.now) c.args.names c.args.rows.now c.requires.binders

pub join_same_names-requires-clause-first_nodes : goal.join_same_names-requires-clause-first_nodes
join_same_names-requires-clause-first_nodes c =
    let first = c.first_of_hole-first in
    let le = first.ensures.lowest c.loop-p.p (c.is_hole.ensures.0 c.if-is_hole.true) in
    let fits = names_end c.args.names first.result c.args.size (omega arith) in omega arith

pub join_same_names-requires-clause-exact : goal.join_same_names-requires-clause-exact
join_same_names-requires-clause-exact c =
    let some = c.loop-p.invariant [] in (name_parts (written c.args.size c.args.words.now) c.args.names, some.pairs, some.exact)

pub loop-p-preserved : goal.loop-p-preserved
loop-p-preserved c =
    let l = c.loop-p in
    let T = written c.args.size c.args.words.now in
    elim c.if-is_hole.branch [
      | then-is_hole w ↦
          let number = slice_index c.args.words.now (8 * l.p + 1) in
          let here = c.is_hole.ensures.0 w.if-is_hole.true in
          rw w.rows-is
          (holes_more T c.args.names l.p w.first_of_hole-first.result number c.loop-p-test.true (form_written c.args.size c.args.words.now l.p c.loop-p-test.true ∙ here)
          (lowest_written c.args.size c.args.words.now l.p number w.first_of_hole-first.result c.loop-p-test.true here w.first_of_hole-first.ensures)
          l.rows w.join_same_names.new.rows (omega arith) w.join_same_names.ensures l.invariant)
      | else-is_hole w ↦
          rw w.rows-is
          (holes_skip T c.args.names l.p l.rows
          (λ h e.
          let here = (hole_inside c.args.size c.args.words.now l.p h e).1 in
          let number = written_hole c.args.words.now l.p h here in
          let hole : true ≡ false = sym (c.is_hole.ensures.1 (here ∙ ap Form.hole (sym number))) ∙ w.if-is_hole.false in cc) l.invariant)
    ]

pub returns : goal.returns
returns c =
    let at_end : c.loop-p.p ≡ c.args.size = omega arith in
    always_done c.args.size c.args.words.now c.args.names c.loop-p.rows (rw at_end at c.loop-p.invariant)
