use Rattle.std.proofs.Common.{◌≡◌, arith}
use Rattle.nodes.proofs.HoldersSet.{holders_all, holders_more, holders_none, parts_inside}
use Rattle.nodes.proofs.scopes.write_holders.Goals as goal

pub loop-p-init : goal.loop-p-init
loop-p-init c = holders_none c.args.size c.args.words.now c.clear_holders.new.words c.clear_holders.ensures.none c.clear_holders.ensures.forms c.clear_holders.ensures.only

pub hold_parts-requires-clause-inside : goal.hold_parts-requires-clause-inside
hold_parts-requires-clause-inside c =
    parts_inside c.args.size c.args.words.now c.requires.ordered c.loop-p.words c.loop-p.p c.loop-p-test.true (omega arith) c.loop-p.invariant.forms

pub loop-p-preserved : goal.loop-p-preserved
loop-p-preserved c =
    holders_more c.args.size c.args.words.now c.requires.ordered c.loop-p.p c.loop-p.words c.hold_parts.new.words c.loop-p-test.true c.loop-p.invariant c.hold_parts.ensures

pub returns-clause-holders : goal.returns-clause-holders
returns-clause-holders c =
    let at_end : c.loop-p.p ≡ c.args.size = omega arith in
    holders_all c.args.size c.args.words.now c.requires.ordered c.loop-p.words (rw at_end at c.loop-p.invariant)
