use Rattle.std.proofs.Common.{◌≡◌, ℕ, ◌<◌, length-set, get_or, sym, arith}
use Rattle.forest.specs.Rows.{IsNode}
use Rattle.nodes.specs.Searches.{Leads}
use Rattle.nodes.proofs.MarkedRoots.{fewer_blanks, some_same, step_found}
use Rattle.nodes.proofs.MissedGoals.{all_miss, misses_next, misses_none, misses_skip}
use Rattle.nodes.proofs.cycle.+leads_to.Goals as goal
use Rattle.nodes.proofs.cycle.+leads_to.Goals.{in-Some+else-next-goal+else-marks-next-eq-NOT_SEEN, else-marks-next-eq-NOT_SEEN-via-then-marks-next-eq-NOT_SEEN+else-leads_to, else-marks-next-eq-NOT_SEEN-via-else-marks-next-eq-NOT_SEEN, in_default}

pub loop-side-init : goal.loop-side-init
loop-side-init t c = misses_none c.args.rows.now c.args.goal c.args.root c.args.marks.now (omega arith) c.requires.blank c.requires.misses

pub returns-then-next-goal-clause-leads : goal.returns-then-next-goal-clause-leads
returns-then-next-goal-clause-leads t c =
    let step = step_found c.args.rows.now c.args.root c.loop-side.side c.in-Some.part c.find-next.result c.loop-side-test.true c.in-Some.ensures c.find-next.ensures.root in
    λ e. Leads.one (rw c.if-next-goal.true at step)

pub returns-then-leads_to-clause-leads : goal.returns-then-leads_to-clause-leads
returns-then-leads_to-clause-leads t c =
    let step = step_found c.args.rows.now c.args.root c.loop-side.side c.in-Some.part c.find-next.result c.loop-side-test.true c.in-Some.ensures c.find-next.ensures.root in
    λ e. Leads.more step (c.leads_to.ensures.leads c.if-leads_to.true)

pub leads_to-requires : goal.leads_to-requires
leads_to-requires t c =
    let part : IsNode c.args.rows.now c.in-Some.part = c.requires.forest.inside c.args.root c.loop-side.side c.in-Some.part c.requires.node c.loop-side-test.true (sym c.in-Some.ensures) in
    let fewer = fewer_blanks c.args.marks.now c.args.root (omega arith) c.requires.blank c.loop-side.marks c.loop-side.auto.marks c.loop-side.invariant.some in (
      omega (arith, c.decreases),
      (
        c.requires.forest,
        (omega arith, (omega (arith, length-set {A = ℕ}), (c.if-marks-next-eq-NOT_SEEN.true, c.loop-side.invariant.misses))),
      ),
    )

pub loop-side-preserved : goal.loop-side-preserved
loop-side-preserved t c =
    let i = c.loop-side in
    elim c.match-part_of.branch [
      | in-Some+else-next-goal+else-marks-next-eq-NOT_SEEN w ↦
          let r = w.find-next.ensures.root in
          elim w.else-marks-next-eq-NOT_SEEN.branch [
            | else-marks-next-eq-NOT_SEEN-via-then-marks-next-eq-NOT_SEEN+else-leads_to v ↦
                let all = v.leads_to.ensures.passed v.if-leads_to.false in
                let shown : 0 < get_or v.leads_to.new.marks w.find-next.result 0 = omega (arith, all.here) in
                rw w.marks-is (rw v.marks-is
                (misses_next c.args.rows.now c.args.goal c.args.root i.side _ i.marks i.invariant w.in-Some.part v.leads_to.new.marks (sym w.in-Some.ensures) all.some all.misses (rw (← r) shown) (rw (← r) w.if-next-goal.false)))
            | else-marks-next-eq-NOT_SEEN-via-else-marks-next-eq-NOT_SEEN v ↦
                let shown : 0 < get_or i.marks w.find-next.result 0 = omega (arith, v.if-marks-next-eq-NOT_SEEN.false) in
                rw w.marks-is (rw v.marks-is
                (misses_next c.args.rows.now c.args.goal c.args.root i.side _ i.marks i.invariant w.in-Some.part i.marks (sym w.in-Some.ensures) (some_same i.marks) i.invariant.misses (rw (← r) shown) (rw (← r) w.if-next-goal.false)))
          ]
      | in_default w ↦ rw w.marks-is (misses_skip c.args.rows.now c.args.goal c.args.root i.side _ i.marks i.invariant (sym w.in_default.ensures))
    ]

pub returns-clause-passed : goal.returns-clause-passed
returns-clause-passed t c =
    let at_end : c.loop-side.side ≡ 3 = omega arith in
    λ e. all_miss c.args.rows.now c.args.goal c.args.root c.args.marks.now c.loop-side.marks (omega arith) c.requires.blank c.loop-side.auto.marks (rw at_end at c.loop-side.invariant)
