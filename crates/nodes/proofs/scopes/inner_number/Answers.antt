use Rattle.std.proofs.Common.{◌<◌, sym, ◌∙◌, arith}
use Rattle.nodes.proofs.ScopesClimbed.{counted_by, counted_found, counted_none, counted_past, held_scope}
use Rattle.nodes.proofs.scopes.inner_number.Goals as goal
use Rattle.nodes.proofs.scopes.inner_number.Goals.{In-Some}

-- the holder is lower
lower : (c : In-Some) → c.in-Some.holder < c.loop-holder.below
lower c =
    (held_scope c.args.size c.args.words.now c.requires.holders c.loop-holder.below c.in-Some.holder c.loop-holder.invariant.within (sym c.in-Some.ensures)).0

pub binder_of-requires : goal.binder_of-requires
binder_of-requires c = let low = lower (goal.at.binder_of-requires c).In-Some in omega arith

pub returns-then-bound-name : goal.returns-then-bound-name
returns-then-bound-name c =
    counted_found c.args.size c.args.words.now c.requires.holders c.args.p c.loop-holder.below c.in-Some.holder c.loop-holder.invariant.within (sym c.in-Some.ensures)
    c.args.name c.loop-holder.passed c.in-Some-binder_of.bound (sym c.in-Some-binder_of.ensures) c.if-bound-name.true c.loop-holder.invariant.counted

pub loop-holder-smaller-else-bound-name : goal.loop-holder-smaller-else-bound-name
loop-holder-smaller-else-bound-name c = lower (goal.at.loop-holder-smaller-else-bound-name c).In-Some

pub loop-holder-preserved-else-bound-name : goal.loop-holder-preserved-else-bound-name
loop-holder-preserved-else-bound-name c =
    let low = lower (goal.at.loop-holder-preserved-else-bound-name c).In-Some in
    record {
      within = omega arith;
      counted = counted_past c.args.size c.args.words.now c.requires.holders c.args.p c.loop-holder.below c.in-Some.holder c.loop-holder.invariant.within (sym c.in-Some.ensures)
          c.args.name c.loop-holder.passed c.in-Some-binder_of.bound (sym c.in-Some-binder_of.ensures) c.if-bound-name.false c.loop-holder.invariant.counted;
    }

pub loop-holder-smaller : goal.loop-holder-smaller
loop-holder-smaller c = lower (goal.at.loop-holder-smaller c).In-Some

pub loop-holder-preserved : goal.loop-holder-preserved
loop-holder-preserved c =
    let low = lower (goal.at.loop-holder-preserved c).In-Some in
    record {
      within = omega arith;
      counted = counted_by c.args.size c.args.words.now c.requires.holders c.args.p c.loop-holder.below c.in-Some.holder c.loop-holder.invariant.within (sym c.in-Some.ensures)
          c.args.name c.loop-holder.passed (sym c.binder_of.ensures ∙ c.in_default-binder_of.is) c.loop-holder.invariant.counted;
    }

pub returns : goal.returns
returns c =
    counted_none c.args.size c.args.words.now c.requires.holders c.args.p c.loop-holder.below c.loop-holder.invariant.within (sym c.holder_of.ensures ∙ c.in_default.is)
    c.args.name c.loop-holder.passed c.loop-holder.invariant.counted
