use Rattle.std.proofs.Common.{below_more, arith}
use Rattle.nodes.specs.Starting.{written_part}
use Rattle.nodes.proofs.FirstRows.{first_exact, parts_few}
use Rattle.nodes.proofs.OwnParts.{own_below}
use Rattle.nodes.proofs.places.init_rows.Goals as goal

pub write_row-requires-clause-few : goal.write_row-requires-clause-few
write_row-requires-clause-few c = parts_few c.args.size c.args.words.now c.requires.ordered c.loop-p.p c.loop-p-test.true c.requires.few

pub loop-p-preserved : goal.loop-p-preserved
loop-p-preserved c =
    below_more _ _
    (λ i h. own_below (written_part c.args.words.now) c.loop-p.rows c.write_row.new.rows c.loop-p.p i h c.write_row.ensures.below (c.loop-p.invariant i h))
    c.write_row.ensures.own

pub returns : goal.returns
returns c =
    first_exact c.args.size c.args.words.now c.requires.ordered c.loop-p.rows (omega arith) (λ i h. c.loop-p.invariant i (omega arith))
