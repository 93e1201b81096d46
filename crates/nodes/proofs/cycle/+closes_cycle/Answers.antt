use Rattle.std.proofs.Common.{◌≡◌, ℕ, length-set, sym, arith}
use Rattle.forest.specs.Rows.{IsNode}
use Rattle.nodes.specs.Searches.{Done}
use Rattle.nodes.proofs.MarkedRoots.{all_passed, fewer_blanks, passed_next, passed_none, passed_skip, some_same, step_found, way_back, way_next}
use Rattle.nodes.proofs.cycle.+closes_cycle.Goals as goal
use Rattle.nodes.proofs.cycle.+closes_cycle.Goals.{in-Some+else-marks-next-eq-ON_WAY+else-marks-next-eq-NOT_SEEN, else-marks-next-eq-NOT_SEEN-via-then-marks-next-eq-NOT_SEEN+else-closes_cycle, else-marks-next-eq-NOT_SEEN-via-else-marks-next-eq-NOT_SEEN, in_default}

pub loop-side-init : goal.loop-side-init
loop-side-init t c = passed_none c.args.rows.now c.args.root c.args.marks.now (omega arith) c.requires.blank c.requires.none

pub returns-then-marks-next-eq-ON_WAY-clause-cycle : goal.returns-then-marks-next-eq-ON_WAY-clause-cycle
returns-then-marks-next-eq-ON_WAY-clause-cycle t c =
    let step = step_found c.args.rows.now c.args.root c.loop-side.side c.in-Some.part c.find-next.result c.loop-side-test.true c.in-Some.ensures c.find-next.ensures.root in
    λ e. (c.args.root, c.requires.node, way_back c.args.marks.now c.args.root (omega arith) c.requires.blank c.loop-side.marks c.loop-side.auto.marks c.loop-side.invariant.some c.args.rows.now c.find-next.result c.requires.way step c.if-marks-next-eq-ON_WAY.true)

pub closes_cycle-requires : goal.closes_cycle-requires
closes_cycle-requires t c =
    let step = step_found c.args.rows.now c.args.root c.loop-side.side c.in-Some.part c.find-next.result c.loop-side-test.true c.in-Some.ensures c.find-next.ensures.root in
    let some = c.loop-side.invariant.some in
    let part : IsNode c.args.rows.now c.in-Some.part = c.requires.forest.inside c.args.root c.loop-side.side c.in-Some.part c.requires.node c.loop-side-test.true (sym c.in-Some.ensures) in
    let fewer = fewer_blanks c.args.marks.now c.args.root (omega arith) c.requires.blank c.loop-side.marks c.loop-side.auto.marks some in (
      omega (arith, c.decreases),
      (
        c.requires.forest,
        (
          omega arith,
          (
            omega (arith, length-set {A = ℕ}),
            (
              c.if-marks-next-eq-NOT_SEEN.true,
              (c.loop-side.invariant.none, way_next c.args.marks.now c.args.root (omega arith) c.requires.blank c.loop-side.marks c.loop-side.auto.marks some c.args.rows.now c.find-next.result c.requires.way step),
            ),
          ),
        ),
      ),
    )

pub loop-side-preserved : goal.loop-side-preserved
loop-side-preserved t c =
    let i = c.loop-side in
    elim c.match-part_of.branch [
      | in-Some+else-marks-next-eq-ON_WAY+else-marks-next-eq-NOT_SEEN w ↦
          let r = w.find-next.ensures.root in
          elim w.else-marks-next-eq-NOT_SEEN.branch [
            | else-marks-next-eq-NOT_SEEN-via-then-marks-next-eq-NOT_SEEN+else-closes_cycle v ↦
                let all = v.closes_cycle.ensures.passed v.if-closes_cycle.false in
                rw w.marks-is (rw v.marks-is
                (passed_next c.args.rows.now c.args.root i.side _ i.marks i.invariant w.in-Some.part v.closes_cycle.new.marks (sym w.in-Some.ensures) all.some all.none (rw (← r) all.here)))
            | else-marks-next-eq-NOT_SEEN-via-else-marks-next-eq-NOT_SEEN v ↦
                let done : Done i.marks w.find-next.result = omega (arith, w.if-marks-next-eq-ON_WAY.false, v.if-marks-next-eq-NOT_SEEN.false) in
                rw w.marks-is (rw v.marks-is
                (passed_next c.args.rows.now c.args.root i.side _ i.marks i.invariant w.in-Some.part i.marks (sym w.in-Some.ensures) (some_same i.marks) i.invariant.none (rw (← r) done)))
          ]
      | in_default w ↦ rw w.marks-is (passed_skip c.args.rows.now c.args.root i.side _ i.marks i.invariant (sym w.in_default.ensures))
    ]

pub returns-clause-passed : goal.returns-clause-passed
returns-clause-passed t c =
    let i = c.loop-side.invariant in
    let at_end : c.loop-side.side ≡ 3 = omega arith in
    λ e. all_passed c.args.marks.now c.args.root (omega arith) c.requires.blank c.loop-side.marks c.loop-side.auto.marks i.some c.args.rows.now i.none (λ s step h. i.below s step (omega arith))
