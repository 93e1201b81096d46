use Rattle.std.proofs.Common.{◌≡◌, length, sym, ◌∙◌, arith, rules}
use Rattle.recipe.proofs.Marking.{knows_first, knows_more, passed_none, refused_told, told_shallow}
use Rattle.recipe.proofs.checking.test_places.Goals as goal

pub loop-p-init : goal.loop-p-init
loop-p-init g c =
    let made = c.new-checker.ensures in
    knows_first c.args.places.now c.args.leaves.now c.new-checker.result made.size made.leaf_count made.depths

pub returns-in_err-test : goal.returns-in_err-test
returns-in_err-test g c =
    let told = refused_told c.args.places.now c.args.leaves.now c.loop-p.p c.loop-p.checker c.loop-p-test.true c.loop-p.invariant c.in_err-test.field-0.0 (sym c.test.ensures ∙ c.in_err-test.was) in
    search rules

pub mark-requires-clause-shallow : goal.mark-requires-clause-shallow
mark-requires-clause-shallow g c =
    told_shallow c.args.places.now c.args.leaves.now c.loop-p.p c.loop-p.checker c.loop-p-test.true c.loop-p.invariant (passed_none _ _ (sym c.test.ensures ∙ c.in_ok-test.was))

pub loop-p-preserved : goal.loop-p-preserved
loop-p-preserved g c =
    let none = passed_none _ _ (sym c.test.ensures ∙ c.in_ok-test.was) in
    let after = c.mark.ensures in
    knows_more c.args.places.now c.args.leaves.now c.loop-p.p c.loop-p.checker c.loop-p-test.true c.loop-p.invariant none c.requires c.mark.new.self after.size after.leaf_count after.depths

pub returns : goal.returns
returns g c =
    let ended : length c.args.places.now ≡ c.loop-p.p = omega (arith, c.loop-p.auto.p-end, c.loop-p-test.false) in
    rw (ended, c.loop-p.invariant.clean)
