use Rattle.std.proofs.Common.{◌≡◌, get_or, sym, ap, ◌∙◌, arith}
use Rattle.recipe.proofs.Lists.{replicate_at}
use Rattle.nodes.proofs.BindersTied.{bind_few, number_inside, tied_all, tied_first, tied_more, tied_none, tied_skip}
use Rattle.nodes.proofs.binders.tie_binders.Goals as goal
use Rattle.nodes.proofs.binders.tie_binders.Goals.{in-Some+then-first-eq0, in-Some+else-first-eq0, in_default}

pub loop-p-init : goal.loop-p-init
loop-p-init c =
    tied_none c.args.names c.args.rows.now c.args.words.now c.args.names_rows.now c.fill.new.self
    (λ r. ap (λ marks. get_or marks r 0) (c.fill.ensures.after (λ y e. e)) ∙ replicate_at _ r 0)

pub bound_node-requires-clause-bind : goal.bound_node-requires-clause-bind
bound_node-requires-clause-bind c =
    bind_few c.args.size c.args.names c.args.words.now c.requires.ordered c.requires.binders c.requires.few_places c.loop-p.p c.loop-p-test.true

pub join-requires-clause-rows : goal.join-requires-clause-rows
join-requires-clause-rows c = let (sub, pairs, exact) = c.requires.exact in (c.loop-p.invariant.more sub pairs exact).rows

pub join-requires-clause-first : goal.join-requires-clause-first
join-requires-clause-first c =
    let l = c.loop-p in
    let (k, low, at, is) = l.invariant.marked c.find-root.result c.if-first-eq0.false in
    let inside = number_inside c.args.size c.args.names c.args.words.now c.requires.ordered c.requires.binders k _ (omega arith) is in
    omega arith

pub join-requires-clause-second : goal.join-requires-clause-second
join-requires-clause-second c =
    let inside = number_inside c.args.size c.args.names c.args.words.now c.requires.ordered c.requires.binders c.loop-p.p c.in-Some.node c.loop-p-test.true (sym c.bound_node.ensures.node ∙ c.in-Some.is) in
    omega arith

pub loop-p-preserved : goal.loop-p-preserved
loop-p-preserved c =
    let l = c.loop-p in
    elim c.match-bound_node.branch [
      | in-Some+then-first-eq0 w ↦
          let at = w.find-root.ensures.root in
          rw (w.names_rows-is, w.marks-is, at)
          (tied_first c.args.names c.args.rows.now c.args.words.now c.args.names_rows.now l.p l.marks l.names_rows l.invariant w.in-Some.node (sym c.bound_node.ensures.node ∙ w.in-Some.is)
          (rw at at w.if-first-eq0.true) (omega (arith, at, w.find-root.ensures.within)))
      | in-Some+else-first-eq0 w ↦
          let at = w.find-root.ensures.root in
          rw (w.names_rows-is, w.marks-is)
          (tied_more c.args.names c.args.rows.now c.args.words.now c.args.names_rows.now l.p l.marks l.names_rows l.invariant w.in-Some.node (sym c.bound_node.ensures.node ∙ w.in-Some.is)
          w.join.new.rows (rw at at w.if-first-eq0.false) (rw at at w.join.ensures))
      | in_default w ↦
          rw (w.names_rows-is, w.marks-is)
          (tied_skip c.args.names c.args.rows.now c.args.words.now c.args.names_rows.now l.p l.marks l.names_rows l.invariant (sym c.bound_node.ensures.node ∙ w.in_default.is))
    ]

pub returns : goal.returns
returns c =
    let at_end : c.loop-p.p ≡ c.args.size = omega arith in
    λ told links. tied_all c.args.size c.args.names c.args.rows.now c.args.words.now c.args.names_rows.now c.loop-p.marks c.loop-p.names_rows c.requires.ordered c.requires.binders (rw at_end at c.loop-p.invariant) told links
