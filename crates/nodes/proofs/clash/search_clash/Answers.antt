use Rattle.std.proofs.Common.{arith}
use Rattle.nodes.proofs.ClashesFound.{lowest_found, none_found}
use Rattle.nodes.proofs.clash.search_clash.Goals as goal

pub returns-in-Some : goal.returns-in-Some
returns-in-Some c =
    let (inside, found, low) = c.in-Some.ensures in
    λ told joined roots.
    lowest_found c.args.size c.args.words.now c.args.rows.now told joined roots c.loop-p.p c.in-Some.q c.loop-p-test.true c.loop-p.invariant inside found low

pub returns : goal.returns
returns c told joined roots =
    none_found c.args.size c.args.words.now c.args.rows.now told joined roots (λ j k h i o. c.loop-p.invariant j k (omega arith) i o)
