use Rattle.std.proofs.Common.{ap, ◌∙◌, arith}
use Rattle.std.specs.List.{range_with_len}
use Rattle.recipe.specs.Links.{kind_of}
use Rattle.closure.specs.Walks.{Walks}
use Rattle.closure.proofs.WalksExact.{carry, walk_low}
use Rattle.nodes.proofs.LeafNumbers.{nat_sameness}
use Rattle.sheet.proofs.WalksFound.{form_read, shown_inside, walk_absent, walk_down, walk_here, walk_level}
use Rattle.sheet.proofs.walking.+walk.Goals as goal

pub find-find_solid-requires : goal.find-find_solid-requires
find-find_solid-requires t c =
    let form = form_read c.args.size c.args.memory.now c.records_of.result.now c.args.p c.records_of.ensures.records c.requires.place in
    (omega (arith, c.decreases), (c.requires.solved, (c.requires.place, λ e. (let hole = c.is_hole.ensures.1 (ap kind_of form ∙ e) in let other = c.if-not-is_hole.true in cc))))

pub find-find_solid-found-requires : goal.find-find_solid-found-requires
find-find_solid-found-requires t c =
    let (told, solved) = c.requires.solved in
    let found = c.in-Some.ensures told solved in
    (omega (arith, c.decreases), (c.requires.solved, (shown_inside solved found.has.0 c.requires.place, found.has.1)))

pub find-seen_from-requires-clause-first : goal.find-seen_from-requires-clause-first
find-seen_from-requires-clause-first t c = let (told, solved) = c.requires.solved in shown_inside solved (c.in-Some.ensures told solved).has.0 c.requires.place

pub find-seen_from-requires-clause-name : goal.find-seen_from-requires-clause-name
find-seen_from-requires-clause-name t c =
    let (told, solved) = c.requires.solved in
    walk_low nat_sameness solved.ready (range_with_len 0 c.args.leaves) (c.find_solid-found.ensures told solved)

pub find-returns-in-None : goal.find-returns-in-None
find-returns-in-None t c told solved = Walks.undecided (c.in-None.ensures told solved)

pub find-returns-in-Some : goal.find-returns-in-Some
find-returns-in-Some t c told solved =
    let form = form_read c.args.size c.args.memory.now c.records_of.result.now c.args.p c.records_of.ensures.records c.requires.place in
    let hole = ap kind_of form in
    let found = c.in-Some.ensures told solved in
    let w = c.find_solid-found.ensures told solved in
    let (θ, satisfied) = solved.filled in
    let (g, seen) = carry nat_sameness solved.ready (range_with_len 0 c.args.leaves) θ satisfied found.has.0 w in
    Walks.along (rw (← form) (c.is_hole.ensures.0 c.if-not-is_hole.false)) found.has.0 found.has.1 w (c.seen_from.ensures told solved g seen)

pub find_solid-find-found-requires : goal.find_solid-find-found-requires
find_solid-find-found-requires t c =
    let form = form_read c.args.size c.args.memory.now c.records_of-records.result.now c.args.p c.records_of-records.ensures.records c.requires.place in
    let (told, solved) = c.requires.solved in
    (omega (arith, c.decreases, c.in-Some.ensures.cases.1), (c.requires.solved, (solved.ready.ordered.rising c.args.p _ (rw form at c.in-Some-part_at.ensures)).1))

pub find_solid-found_above-requires : goal.find_solid-found_above-requires
find_solid-found_above-requires t c level e =
    let (told, solved) = c.requires.solved in
    omega (arith, walk_level (c.find-found.ensures told solved) level e, c.in-Some.ensures.cases.1)

pub find_solid-returns-in-None : goal.find_solid-returns-in-None
find_solid-returns-in-None t c told solved =
    let form = form_read c.args.size c.args.memory.now c.records_of-records.result.now c.args.p c.records_of-records.ensures.records c.requires.place in
    walk_here c.requires.solid c.label_at.result c.in-None.ensures.cases (rw form at c.label_at.ensures)

pub find_solid-returns-in-None-part_at : goal.find_solid-returns-in-None-part_at
find_solid-returns-in-None-part_at t c told solved =
    let form = form_read c.args.size c.args.memory.now c.records_of-records.result.now c.args.p c.records_of-records.ensures.records c.requires.place in
    walk_absent c.requires.solid c.in-Some.ensures.cases.0 (rw form at c.in-None-part_at.ensures)

pub find_solid-returns-in-Some-part_at : goal.find_solid-returns-in-Some-part_at
find_solid-returns-in-Some-part_at t c told solved =
    let form = form_read c.args.size c.args.memory.now c.records_of-records.result.now c.args.p c.records_of-records.ensures.records c.requires.place in
    rw c.found_above.ensures (walk_down c.in-Some-part_at.binder c.in-Some.ensures.cases.0 (rw form at c.in-Some-part_at.ensures) (c.find-found.ensures told solved))
