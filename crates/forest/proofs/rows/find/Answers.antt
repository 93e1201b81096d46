use Rattle.std.proofs.Common.{◌∙◌, sym, arith}
use Rattle.forest.proofs.Roots.{fixed_root, root_parent}
use Rattle.forest.proofs.rows.find.Goals as goal

pub loop-node-preserved : goal.loop-node-preserved
loop-node-preserved c = record {
  within = omega (arith, c.requires.rows.low c.loop-node.node);
  same = rw c.parent_of-node.ensures (root_parent c.args.rows.now c.loop-node.node c.requires.rows.low ∙ c.loop-node.invariant.same);
}

pub returns-clause-root : goal.returns-clause-root
returns-clause-root c = sym (fixed_root c.args.rows.now c.loop-node.node (sym c.parent_of.ensures ∙ c.loop-node-test.false)) ∙ c.loop-node.invariant.same
