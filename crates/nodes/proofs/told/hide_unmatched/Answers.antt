use Rattle.std.proofs.lemmas.Option.{MatchOption-at_none}
use Rattle.recipe.proofs.Firsts.{not_some}
use Rattle.nodes.specs.Records.{written}
use Rattle.nodes.proofs.NamesTold.{said_if_some, second_hidden, second_none, second_skip}
use Rattle.nodes.proofs.told.hide_unmatched.Goals as goal
use Rattle.nodes.proofs.told.hide_unmatched.Goals.{else-is_none, then-is_none}

pub loop-y-init : goal.loop-y-init
loop-y-init c = second_none (written c.args.size c.args.words.now) c.args.names c.args.p c.args.q c.args.rows.now

pub join-requires-clause-rows : goal.join-requires-clause-rows
join-requires-clause-rows c = let (sub, pairs, exact) = c.requires.exact in (c.loop-y.invariant.more sub pairs exact).rows

pub loop-y-preserved : goal.loop-y-preserved
loop-y-preserved c =
    let l = c.loop-y in
    let T = written c.args.size c.args.words.now in
    elim c.if-is_none.branch [
      | then-is_none w ↦
          rw w.rows-is
          (second_hidden T c.args.names c.args.p c.args.q l.y c.loop-y-test.true (MatchOption-at_none _ _ (not_some c.equal_name.result w.if-is_none.ensures) c.equal_name.ensures) l.invariant
          (rw w.node_of.ensures.node at w.join.ensures))
      | else-is_none w ↦
          let (x, even) = said_if_some c.equal_name.result _ _ w.if-is_none.ensures c.equal_name.ensures in
          rw w.rows-is (second_skip T c.args.names c.args.p c.args.q x l.y even l.invariant)
    ]
