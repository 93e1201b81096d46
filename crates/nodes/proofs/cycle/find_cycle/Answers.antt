use Rattle.std.proofs.lemmas.Bool.{both_ways}
use Rattle.nodes.proofs.CyclesFound.{finds_cycle, no_cycle}
use Rattle.nodes.proofs.cycle.find_cycle.Goals as goal

pub returns-then-not-has_cycle : goal.returns-then-not-has_cycle
returns-then-not-has_cycle c T told is past joined roots =
    no_cycle T told c.args.rows.now past joined roots (λ cycle. both_ways _ c.if-not-has_cycle.true (c.has_cycle.ensures.1 cycle))

pub returns : goal.returns
returns c T told is past joined roots = finds_cycle T told c.args.rows.now past joined roots c.args.size c.search_cycle.result is c.search_cycle.ensures
