use Rattle.std.proofs.Common.{◌≡◌, arith}
use Rattle.nodes.proofs.HoleNames.{same_more}
use Rattle.nodes.proofs.names.join_same_names.Goals as goal

pub join-requires-clause-rows : goal.join-requires-clause-rows
join-requires-clause-rows c = let (sub, pairs, exact) = c.requires.exact in (c.loop-x.invariant sub pairs exact).rows

pub loop-x-preserved : goal.loop-x-preserved
loop-x-preserved c =
    let l = c.loop-x in
    same_more c.args.names c.args.p c.args.q l.x c.node_of-first.result c.node_of-second.result c.args.rows.now l.rows c.join.new.rows c.node_of-first.ensures.node c.node_of-second.ensures.node l.invariant c.join.ensures

pub returns : goal.returns
returns c =
    let at_end : c.loop-x.x ≡ c.args.names = omega arith in
    rw at_end at c.loop-x.invariant
