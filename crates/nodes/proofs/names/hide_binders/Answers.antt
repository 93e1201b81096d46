use Rattle.std.proofs.Common.{◌≡◌, suc, ◌+◌, ◌*◌, ◌<◌, Some, None, sym, ◌∙◌, arith, []}
use Rattle.nodes.specs.NameClasses.{InTable}
use Rattle.nodes.specs.Records.{written}
use Rattle.nodes.proofs.BindersHidden.{binder_few, binders_more, binders_skip, written_binder}
use Rattle.nodes.proofs.NameNumbers.{number_below}
use Rattle.nodes.proofs.names.hide_binders.Goals as goal
use Rattle.nodes.proofs.names.hide_binders.Goals.{in-Some, in_default}

pub node_of-requires-clause-name : goal.node_of-requires-clause-name
node_of-requires-clause-name c =
    let T = written c.args.size c.args.words.now in
    binder_few T c.args.names c.requires.binders c.loop-p.p c.in-Some.x
    (written_binder c.args.size c.args.words.now c.loop-p.p (Some c.in-Some.x) c.loop-p-test.true (sym c.binder_of.ensures ∙ c.in-Some.is))

pub join-requires-clause-rows : goal.join-requires-clause-rows
join-requires-clause-rows c = (c.loop-p.invariant []).exact.rows

pub join-requires-clause-first : goal.join-requires-clause-first
join-requires-clause-first c =
    let T = written c.args.size c.args.words.now in
    let few = binder_few T c.args.names c.requires.binders c.loop-p.p c.in-Some.x
    (written_binder c.args.size c.args.words.now c.loop-p.p (Some c.in-Some.x) c.loop-p-test.true (sym c.binder_of.ensures ∙ c.in-Some.is)) in
    let low : c.loop-p.p < c.args.size = c.loop-p-test.true in
    let below : suc (c.loop-p.p * c.args.names + c.in-Some.x) < suc (c.args.names * c.args.size) = number_below T c.args.names (InTable.name low few) in
    omega arith

pub loop-p-preserved : goal.loop-p-preserved
loop-p-preserved c =
    let T = written c.args.size c.args.words.now in
    let l = c.loop-p in
    elim c.match-binder_of.branch [
      | in-Some w ↦
          rw w.rows-is
          (binders_more T c.args.names l.p c.requires.binders l.rows w.join.new.rows w.in-Some.x (omega arith) c.loop-p-test.true
          (written_binder c.args.size c.args.words.now l.p (Some w.in-Some.x) c.loop-p-test.true (sym c.binder_of.ensures ∙ w.in-Some.is))
          (rw w.node_of.ensures.node at w.join.ensures) l.invariant)
      | in_default w ↦
          rw w.rows-is
          (binders_skip T c.args.names l.p l.rows
          (written_binder c.args.size c.args.words.now l.p None c.loop-p-test.true (sym c.binder_of.ensures ∙ w.in_default.is)) l.invariant)
    ]

pub returns : goal.returns
returns c =
    let at_end : c.loop-p.p ≡ c.args.size = omega arith in
    rw at_end at c.loop-p.invariant
