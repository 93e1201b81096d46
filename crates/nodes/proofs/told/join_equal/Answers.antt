use Rattle.std.proofs.Common.{suc, ◌+◌, ◌*◌, ◌<◌, arith}
use Rattle.recipe.specs.Tables.{scope}
use Rattle.nodes.specs.NameClasses.{InTable}
use Rattle.nodes.specs.Records.{written}
use Rattle.nodes.proofs.NameNumbers.{number_below}
use Rattle.nodes.proofs.NamesTold.{first_hidden, first_more, first_none}
use Rattle.closure.proofs.EqualNames.{equal_few}
use Rattle.nodes.proofs.told.join_equal.Goals as goal
use Rattle.nodes.proofs.told.join_equal.Goals.{in-None, in-Some}

pub loop-x-init : goal.loop-x-init
loop-x-init c = first_none (written c.args.size c.args.words.now) c.args.names c.args.p c.args.q c.args.rows.now

pub node_of-other-requires-clause-name : goal.node_of-other-requires-clause-name
node_of-other-requires-clause-name c =
    let T = written c.args.size c.args.words.now in
    equal_few T c.args.names c.requires.binders (scope T c.args.p) c.args.q c.loop-x.x c.in-Some.y c.loop-x-test.true (c.in-Some.ensures)

pub join-requires-clause-rows : goal.join-requires-clause-rows
join-requires-clause-rows c = let (sub, pairs, exact) = c.requires.exact in (c.loop-x.invariant.more sub pairs exact).rows

pub join-requires-clause-second : goal.join-requires-clause-second
join-requires-clause-second c =
    let T = written c.args.size c.args.words.now in
    elim c.match-equal_name.branch [
      | in-Some w ↦
          let few = equal_few T c.args.names c.requires.binders (scope T c.args.p) c.args.q c.loop-x.x w.in-Some.y c.loop-x-test.true (w.in-Some.ensures) in
          let below : suc (c.args.q * c.args.names + w.in-Some.y) < suc (c.args.names * c.args.size) = number_below T c.args.names (InTable.name c.requires.second few) in
          rw (w.other-is, w.node_of-other.ensures.node) (omega arith)
      | in-None w ↦ rw w.other-is (omega arith)
    ]

pub loop-x-preserved : goal.loop-x-preserved
loop-x-preserved c =
    let l = c.loop-x in
    let T = written c.args.size c.args.words.now in
    elim c.match-equal_name.branch [
      | in-Some w ↦
          let even = w.in-Some.ensures in
          let few = equal_few T c.args.names c.requires.binders (scope T c.args.p) c.args.q l.x w.in-Some.y c.loop-x-test.true even in
          first_more T c.args.names c.args.p c.args.q l.x w.in-Some.y c.loop-x-test.true few even l.invariant
          (rw (c.node_of.ensures.node, w.other-is, w.node_of-other.ensures.node) at c.join.ensures)
      | in-None w ↦
          first_hidden T c.args.names c.args.p c.args.q l.x c.loop-x-test.true (w.in-None.ensures) l.invariant
          (rw (c.node_of.ensures.node, w.other-is) at c.join.ensures)
    ]
