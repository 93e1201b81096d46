use Rattle.std.proofs.Common.{◌<◌, sym, ap, ◌∙◌, arith}
use Rattle.std.specs.Option.{is_some}
use Rattle.nodes.proofs.ScopesClimbed.{held_scope, passed_all, passed_by, passed_past}
use Rattle.nodes.proofs.scopes.depth_of.Goals as goal
use Rattle.nodes.proofs.scopes.depth_of.Goals.{In-Some}

-- the holder is lower
lower : (c : In-Some) → c.in-Some.holder < c.loop-holder.below
lower c =
    (held_scope c.args.size c.args.words.now c.requires.holders c.loop-holder.below c.in-Some.holder c.loop-holder.invariant.within (sym c.in-Some.ensures)).0

pub binder_of-requires : goal.binder_of-requires
binder_of-requires c = let low = lower (goal.at.binder_of-requires c).In-Some in omega arith

pub loop-holder-smaller-then-is_some : goal.loop-holder-smaller-then-is_some
loop-holder-smaller-then-is_some c = lower (goal.at.loop-holder-smaller-then-is_some c).In-Some

pub loop-holder-preserved-then-is_some : goal.loop-holder-preserved-then-is_some
loop-holder-preserved-then-is_some c =
    let low = lower (goal.at.loop-holder-preserved-then-is_some c).In-Some in
    record {
      within = omega arith;
      passed = passed_past c.args.size c.args.words.now c.requires.holders c.args.p c.loop-holder.below c.in-Some.holder c.loop-holder.invariant.within (sym c.in-Some.ensures)
          c.loop-holder.count (ap is_some (sym c.binder_of.ensures) ∙ sym c.is_some.ensures ∙ c.if-is_some.true) c.loop-holder.invariant.passed;
    }

pub loop-holder-smaller : goal.loop-holder-smaller
loop-holder-smaller c = lower (goal.at.loop-holder-smaller c).In-Some

pub loop-holder-preserved : goal.loop-holder-preserved
loop-holder-preserved c =
    let low = lower (goal.at.loop-holder-preserved c).In-Some in
    record {
      within = omega arith;
      passed = passed_by c.args.size c.args.words.now c.requires.holders c.args.p c.loop-holder.below c.in-Some.holder c.loop-holder.invariant.within (sym c.in-Some.ensures)
          c.loop-holder.count (ap is_some (sym c.binder_of.ensures) ∙ sym c.is_some.ensures ∙ c.if-is_some.false) c.loop-holder.invariant.passed;
    }

pub returns : goal.returns
returns c =
    passed_all c.args.size c.args.words.now c.requires.holders c.args.p c.loop-holder.below c.loop-holder.invariant.within (sym c.holder_of.ensures ∙ c.in_default.is)
    c.loop-holder.count c.loop-holder.invariant.passed
