use Rattle.std.proofs.Common.{◌<◌, sym, ◌∙◌, arith}
use Rattle.nodes.proofs.ScopesClimbed.{held_scope, reached_by, reached_found, reached_none, reached_past}
use Rattle.nodes.proofs.scopes.binder_at.Goals as goal
use Rattle.nodes.proofs.scopes.binder_at.Goals.{In-Some}

-- the holder is lower
lower : (c : In-Some) → c.in-Some.holder < c.loop-holder.below
lower c =
    (held_scope c.args.size c.args.words.now c.requires.holders c.loop-holder.below c.in-Some.holder c.loop-holder.invariant.within (sym c.in-Some.ensures)).0

pub binder_of-requires : goal.binder_of-requires
binder_of-requires c = let low = lower (goal.at.binder_of-requires c).In-Some in omega arith

pub returns-then-left-eq0 : goal.returns-then-left-eq0
returns-then-left-eq0 c =
    reached_found c.args.size c.args.words.now c.requires.holders c.args.p c.loop-holder.below c.in-Some.holder c.loop-holder.invariant.within (sym c.in-Some.ensures)
    c.args.position c.loop-holder.left c.in-Some-binder_of.bound (sym c.in-Some-binder_of.ensures) c.if-left-eq0.true c.loop-holder.invariant.reached

pub loop-holder-smaller-else-left-eq0 : goal.loop-holder-smaller-else-left-eq0
loop-holder-smaller-else-left-eq0 c = lower (goal.at.loop-holder-smaller-else-left-eq0 c).In-Some

pub loop-holder-preserved-else-left-eq0 : goal.loop-holder-preserved-else-left-eq0
loop-holder-preserved-else-left-eq0 c =
    let low = lower (goal.at.loop-holder-preserved-else-left-eq0 c).In-Some in
    let more = c.if-left-eq0.false in
    record {
      within = omega arith;
      reached = reached_past c.args.size c.args.words.now c.requires.holders c.args.p c.loop-holder.below c.in-Some.holder c.loop-holder.invariant.within (sym c.in-Some.ensures)
          c.args.position c.loop-holder.left _ c.in-Some-binder_of.bound (sym c.in-Some-binder_of.ensures) (omega arith) c.loop-holder.invariant.reached;
    }

pub loop-holder-smaller : goal.loop-holder-smaller
loop-holder-smaller c = lower (goal.at.loop-holder-smaller c).In-Some

pub loop-holder-preserved : goal.loop-holder-preserved
loop-holder-preserved c =
    let low = lower (goal.at.loop-holder-preserved c).In-Some in
    record {
      within = omega arith;
      reached = reached_by c.args.size c.args.words.now c.requires.holders c.args.p c.loop-holder.below c.in-Some.holder c.loop-holder.invariant.within (sym c.in-Some.ensures)
          c.args.position c.loop-holder.left (sym c.binder_of.ensures ∙ c.in_default-binder_of.is) c.loop-holder.invariant.reached;
    }

pub returns : goal.returns
returns c =
    reached_none c.args.size c.args.words.now c.requires.holders c.args.p c.loop-holder.below c.loop-holder.invariant.within (sym c.holder_of.ensures ∙ c.in_default.is)
    c.args.position c.loop-holder.left c.loop-holder.invariant.reached
