use Rattle.std.proofs.Common.{◌≡◌, Some, sym, ap, ◌∙◌, arith}
use Rattle.std.proofs.lemmas.Bool.{both_ways}
use Rattle.recipe.specs.declared.places.Kind.{Kind}
use Rattle.forest.specs.Rows.{root}
use Rattle.nodes.specs.Opposed.{marked_for}
use Rattle.nodes.proofs.KindsThatDiffer.{hole_kind, not_kind}
use Rattle.nodes.proofs.MarkedPlaces.{marked_hole, marked_new, marked_same}
use Rattle.nodes.proofs.clash.differs_from_marked.Goals as goal
use Rattle.nodes.proofs.clash.differs_from_marked.Goals.{In-Some}

pub returns-then-eq-clause-marked : goal.returns-then-eq-clause-marked
returns-then-eq-clause-marked c =
    λ e. marked_hole c.args.rows.now c.args.words.now c.args.p c.args.marks.now c.requires.lower (hole_kind c.kind_at.result _ c.kind_at.ensures (sym c.if-eq.ensures))

-- the marked place
is_marked : (c : In-Some) → marked_for c.args.marks.now (root c.args.rows.now c.args.p) ≡ Some c.in-Some.first
is_marked c = sym (ap (marked_for c.args.marks.now) c.find-root.ensures.root) ∙ sym c.marked_for.ensures ∙ c.in-Some.is

pub differ-requires-clause-first : goal.differ-requires-clause-first
differ-requires-clause-first c = let (low, at, solid) = c.requires.lower.solid _ _ (is_marked c) in omega arith

pub returns-in-Some-clause-marked : goal.returns-in-Some-clause-marked
returns-in-Some-clause-marked c =
    λ e. marked_same c.args.rows.now c.args.words.now c.args.p c.in-Some.first c.args.marks.now c.requires.lower (is_marked (goal.at.returns-in-Some-clause-marked c).In-Some)
    (λ d. both_ways _ e (c.differ.ensures.1 d))

pub returns-clause-marked : goal.returns-clause-marked
returns-clause-marked c =
    let at = c.find-root.ensures.root in
    λ e. rw at
    (marked_new c.args.rows.now c.args.words.now c.args.p c.args.marks.now c.requires.lower (sym (ap (marked_for c.args.marks.now) at) ∙ sym c.marked_for.ensures ∙ c.in_default.is)
    (λ d. not_kind c.kind_at.result Kind.Hole (sym c.if-eq.ensures) (c.kind_at.ensures ∙ d)) (omega (arith, at, c.find-root.ensures.within)))
