use Rattle.std.proofs.Common.{sym, ◌∙◌, arith}
use Rattle.recipe.specs.Tables.{scope}
use Rattle.nodes.specs.Records.{written}
use Rattle.nodes.proofs.HeightsClimbed.{bound_few, bound_shallow, holder_lower, more_heights, same_heights, top_heights}
use Rattle.nodes.proofs.heights.+heights_at.Goals as goal

pub returns-in_default : goal.returns-in_default
returns-in_default t c =
    top_heights c.args.size c.args.words.now c.requires.holders c.args.p c.requires.place c.free.result (sym c.holder_of.ensures ∙ c.in_default.is) c.free.ensures

pub heights_at-heights-requires : goal.heights_at-heights-requires
heights_at-heights-requires t c =
    let lower = holder_lower c.args.size c.args.words.now c.requires.holders c.args.p c.requires.place c.in-Some.holder (sym c.holder_of.ensures ∙ c.in-Some.is) in
    (omega (arith, c.decreases), (c.requires.rows, (c.requires.ordered, (c.requires.holders, (c.requires.names, omega arith)))))

pub binder_of-requires : goal.binder_of-requires
binder_of-requires t c =
    let lower = holder_lower c.args.size c.args.words.now c.requires.holders c.args.p c.requires.place c.in-Some.holder (sym c.holder_of.ensures ∙ c.in-Some.is) in
    omega arith

pub enter-requires-clause-name : goal.enter-requires-clause-name
enter-requires-clause-name t c =
    bound_few c.args.size c.args.words.now c.requires.holders c.args.p c.requires.place c.in-Some.holder (sym c.holder_of.ensures ∙ c.in-Some.is)
    c.in-Some-binder_of.bound (sym c.binder_of.ensures ∙ c.in-Some-binder_of.is) c.requires.names

pub enter-requires-clause-shallow : goal.enter-requires-clause-shallow
enter-requires-clause-shallow t c =
    bound_shallow c.args.size c.args.words.now c.requires.holders c.args.p c.requires.place c.in-Some.holder (sym c.holder_of.ensures ∙ c.in-Some.is)
    c.in-Some-binder_of.bound (sym c.binder_of.ensures ∙ c.in-Some-binder_of.is) c.heights_at-heights.result c.requires.ordered c.heights_at-heights.ensures

pub returns-in-Some-binder_of : goal.returns-in-Some-binder_of
returns-in-Some-binder_of t c =
    more_heights c.args.size c.args.words.now c.requires.holders c.args.p c.requires.place c.in-Some.holder (sym c.holder_of.ensures ∙ c.in-Some.is)
    c.in-Some-binder_of.bound (sym c.binder_of.ensures ∙ c.in-Some-binder_of.is) c.enter.new.self
    (c.enter.ensures.heights (scope (written c.args.size c.args.words.now) c.in-Some.holder) c.heights_at-heights.ensures)

pub returns-in_default-binder_of : goal.returns-in_default-binder_of
returns-in_default-binder_of t c =
    same_heights c.args.size c.args.words.now c.requires.holders c.args.p c.requires.place c.in-Some.holder (sym c.holder_of.ensures ∙ c.in-Some.is)
    c.heights_at-heights.result (sym c.binder_of.ensures ∙ c.in_default-binder_of.is) c.heights_at-heights.ensures
