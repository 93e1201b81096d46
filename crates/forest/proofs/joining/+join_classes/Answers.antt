use Rattle.std.proofs.Common.{◌≡◌, ℕ, inl, inr, sym, ◌∙◌, arith}
use Rattle.forest.specs.Rows.{IsNode, root}
use Rattle.forest.proofs.Moves.{Ordered, joins_all, joins_none, ordered, ordered_roots, same_chain, sides_next, sides_none, sides_skip}
use Rattle.forest.proofs.joining.+join_classes.Goals as goal
use Rattle.forest.proofs.joining.+join_classes.Goals.{After-max-high, in-Some+in-Some-part_of, in-Some+in_default-part_of, in_default}

pub returns-then-first-second : goal.returns-then-first-second
returns-then-first-second t c =
    joins_none c.args.u c.args.v c.args.rows.now c.shorten-2.new.rows c.requires.rows
    (same_chain c.args.rows.now c.shorten.new.rows c.shorten-2.new.rows c.shorten.ensures c.shorten-2.ensures)
    (sym c.find-first.ensures.root ∙ c.if-first-second.true ∙ c.find-second.ensures.root)

-- low and high are the roots of u and v, in either order
pair : (t : ℕ) (c : After-max-high t) → Ordered (root c.shorten-2.new.rows c.args.u) (root c.shorten-2.new.rows c.args.v) c.min-low.result c.max-high.result
pair t c =
    let first = c.find-first.ensures.root in
    let second = c.find-second.ensures.root in
    ordered (root c.shorten-2.new.rows c.args.u) (root c.shorten-2.new.rows c.args.v) c.min-low.result c.max-high.result
    (rw (← first, ← second) c.min-low.ensures) (rw (← first, ← second) c.max-high.ensures)

-- high has a row
high_node : (t : ℕ) (c : After-max-high t) → IsNode c.shorten-2.new.rows c.max-high.result
high_node t c = omega arith

pub link-requires-clause-low_root : goal.link-requires-clause-low_root
link-requires-clause-low_root t c =
    (ordered_roots c.args.u c.args.v c.min-low.result c.max-high.result c.shorten-2.new.rows c.shorten-2.ensures.rows
    (pair t (goal.at.link-requires-clause-low_root t c).After-max-high)).0

pub link-requires-clause-high_root : goal.link-requires-clause-high_root
link-requires-clause-high_root t c =
    (ordered_roots c.args.u c.args.v c.min-low.result c.max-high.result c.shorten-2.new.rows c.shorten-2.ensures.rows
    (pair t (goal.at.link-requires-clause-high_root t c).After-max-high)).1

pub loop-side-init : goal.loop-side-init
loop-side-init t c = sides_none c.min-low.result c.max-high.result c.link.new.rows c.link.ensures.rows

pub join_classes-requires : goal.join_classes-requires
join_classes-requires t c =
    let m = c.loop-side.invariant.moves in
    let high : IsNode c.loop-side.rows c.max-high.result = omega arith in
    let low : IsNode c.loop-side.rows c.min-low.result = omega arith in (
      omega (arith, c.decreases),
      (
        m.rows,
        (
          m.rows.inside c.min-low.result c.loop-side.side c.in-Some-part_of.left low c.loop-side-test.true (sym c.in-Some-part_of.ensures),
          m.rows.inside c.max-high.result c.loop-side.side c.in-Some.right high c.loop-side-test.true (sym c.in-Some.ensures),
        ),
      ),
    )

pub loop-side-preserved : goal.loop-side-preserved
loop-side-preserved t c =
    let p = pair t (goal.at.loop-side-preserved t c).After-max-high in
    let node = high_node t (goal.at.loop-side-preserved t c).After-max-high in
    let i = c.loop-side in
    elim c.match-part_of.branch [
      | in-Some+in-Some-part_of w ↦
          rw w.rows-is
          (sides_next c.args.u c.args.v c.min-low.result c.max-high.result i.side w.in-Some-part_of.left w.in-Some.right c.shorten-2.new.rows c.link.new.rows i.rows w.join_classes.new.rows
          c.shorten-2.ensures.rows node (omega arith) p c.link.ensures c.loop-side-test.true i.invariant (sym w.in-Some-part_of.ensures) (sym w.in-Some.ensures) w.join_classes.ensures)
      | in-Some+in_default-part_of w ↦ rw w.rows-is (sides_skip c.min-low.result c.max-high.result i.side c.link.new.rows i.rows c.loop-side-test.true i.invariant (inl (sym w.in_default-part_of.ensures)))
      | in_default w ↦ rw w.rows-is (sides_skip c.min-low.result c.max-high.result i.side c.link.new.rows i.rows c.loop-side-test.true i.invariant (inr (sym w.in_default.ensures)))
    ]

pub returns : goal.returns
returns t c =
    let p = pair t (goal.at.returns t c).After-max-high in
    let node = high_node t (goal.at.returns t c).After-max-high in
    let done = c.loop-side.invariant in
    let at_end : c.loop-side.side ≡ 3 = omega arith in
    joins_all c.args.u c.args.v c.min-low.result c.max-high.result c.args.rows.now c.shorten-2.new.rows c.link.new.rows c.loop-side.rows c.requires.rows
    (same_chain c.args.rows.now c.shorten.new.rows c.shorten-2.new.rows c.shorten.ensures c.shorten-2.ensures) node (omega arith) p c.link.ensures
    (rw at_end at done)
