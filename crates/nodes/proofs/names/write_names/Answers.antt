use Rattle.std.proofs.Common.{suc, ◌+◌, ◌*◌, below_more, arith}
use Rattle.nodes.specs.NameRows.{written_names}
use Rattle.nodes.proofs.OwnParts.{own_below}
use Rattle.nodes.proofs.names.write_names.Goals as goal

pub loop-x-preserved : goal.loop-x-preserved
loop-x-preserved c =
    let l = c.loop-x in
    let node = suc (c.args.p * c.args.names + l.x) in
    λ i low. below_more _ node
    (λ k h. own_below (written_names c.args.words.now c.args.names) l.rows c.write_name.new.rows node k h c.write_name.ensures.below (l.invariant k h))
    c.write_name.ensures.own i (omega arith)
