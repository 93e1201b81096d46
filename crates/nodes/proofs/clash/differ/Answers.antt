use Rattle.std.proofs.Common.{◌≡◌, ◌*◌, ◌+◌, get_or, sym, ◌∙◌, ap}
use Rattle.recipe.specs.declared.places.Kind.{Kind}
use Rattle.recipe.specs.Kinds.{code_of}
use Rattle.recipe.proofs.Shapes.{differ_no_holes}
use Rattle.nodes.specs.Records.{written_form}
use Rattle.nodes.proofs.KindsThatDiffer.{hole_kind, kinds_differ, leaf_written, leaves_differ, not_of, not_so, one_kind}
use Rattle.nodes.proofs.clash.differ.Goals as goal
use Rattle.nodes.proofs.clash.differ.Goals.{then-eq-via-then-eq, then-eq-via-else-eq+then-eq-2}

pub returns-then-eq : goal.returns-then-eq
returns-then-eq c =
    elim c.then-eq.branch [
      | then-eq-via-then-eq w ↦ (λ e. cc, λ d. absurd ((differ_no_holes d).0 (hole_kind c.kind_at-first.result _ c.kind_at-first.ensures (sym c.eq.ensures ∙ w.if-eq.true))))
      | then-eq-via-else-eq+then-eq-2 w ↦ (
        λ e. cc,
        λ d. absurd ((differ_no_holes d).1 (hole_kind c.kind_at-second.result _ c.kind_at-second.ensures (sym w.eq-else-eq.ensures ∙ w.if-eq-2.true))),
      )
    ]

pub returns-then-ne : goal.returns-then-ne
returns-then-ne c =
    let apart = kinds_differ c.kind_at-first.result c.kind_at-second.result (written_form c.args.words.now c.args.p) (written_form c.args.words.now c.args.q) c.kind_at-first.ensures c.kind_at-second.ensures (sym c.if-eq.ensures) (sym c.if-eq-2.ensures) (not_so _ (sym c.if-ne.ensures)) in
    (λ e. apart, λ d. c.if-ne.true)

pub returns-then-eq-3 : goal.returns-then-eq-3
returns-then-eq-3 c =
    let one : c.kind_at-first.result ≡ Kind.Leaf = one_kind _ _ (sym c.if-eq-3.ensures) in
    let two : c.kind_at-first.result ≡ c.kind_at-second.result = one_kind _ _ (not_of _ (sym c.if-ne.ensures)) in
    leaves_differ (written_form c.args.words.now c.args.p) (written_form c.args.words.now c.args.q) (get_or c.args.words.now (8 * c.args.p + 1) 0) (get_or c.args.words.now (8 * c.args.q + 1) 0)
    (leaf_written c.args.words.now c.args.p (sym c.kind_at-first.ensures ∙ ap code_of one))
    (leaf_written c.args.words.now c.args.q (sym c.kind_at-second.ensures ∙ ap code_of (sym two ∙ one)))
