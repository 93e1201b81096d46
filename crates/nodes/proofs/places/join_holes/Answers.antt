use Rattle.std.proofs.Common.{◌≡◌, ◌+◌, ◌*◌, slice_index, true, false, sym, ap, ◌∙◌, arith}
use Rattle.recipe.specs.Tables.{Form}
use Rattle.nodes.proofs.HolesJoined.{holes_joined, holes_more, holes_skip}
use Rattle.nodes.proofs.PlaceParts.{written_hole}
use Rattle.nodes.proofs.places.join_holes.Goals as goal
use Rattle.nodes.proofs.places.join_holes.Goals.{then-is_hole, else-is_hole}

pub loop-p-preserved : goal.loop-p-preserved
loop-p-preserved c =
    let i = c.loop-p in
    elim c.if-is_hole.branch [
      | then-is_hole w ↦
          rw w.rows-is
          (holes_more c.args.size c.args.words.now i.p i.rows i.invariant w.join.new.rows (slice_index c.args.words.now (8 * i.p + 1)) w.first_of_hole-first.result c.loop-p-test.true
          (c.is_hole.ensures.0 w.if-is_hole.true) w.first_of_hole-first.ensures w.join.ensures)
      | else-is_hole w ↦
          rw w.rows-is
          (holes_skip c.args.size c.args.words.now i.p i.rows i.invariant
          (λ h e.
          let number = written_hole c.args.words.now i.p h e in
          let hole : true ≡ false = sym (c.is_hole.ensures.1 (e ∙ ap Form.hole (sym number))) ∙ w.if-is_hole.false in cc))
    ]

pub returns : goal.returns
returns c =
    let at_end : c.loop-p.p ≡ c.args.size = omega arith in
    holes_joined c.args.size c.args.words.now c.loop-p.rows (omega arith) (rw at_end at c.loop-p.invariant)
