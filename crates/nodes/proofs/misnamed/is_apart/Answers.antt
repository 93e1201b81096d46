use Rattle.std.proofs.Common.{◌≡◌, Some, None, sym, ap, ◌∙◌, arith}
use Rattle.std.proofs.lemmas.Bool.{both_ways}
use Rattle.forest.specs.Rows.{root}
use Rattle.nodes.specs.Opposed.{marked_for}
use Rattle.nodes.proofs.MarkedNames.{apart_lower, apart_marked, marked_close, marked_first, none_apart}
use Rattle.nodes.proofs.misnamed.is_apart.Goals as goal
use Rattle.nodes.proofs.misnamed.is_apart.Goals.{In-Some}

-- the marked place
is_marked : (c : In-Some) → marked_for c.args.marks.now (root c.args.rows.now c.args.p) ≡ Some c.in-Some.first
is_marked c = sym (ap (marked_for c.args.marks.now) c.find-root.ensures.root) ∙ sym c.marked_for.ensures ∙ c.in-Some.is

pub is_apart_from-requires-clause-lower : goal.is_apart_from-requires-clause-lower
is_apart_from-requires-clause-lower c =
    apart_lower c.args.names_rows.now c.args.rows.now c.args.words.now c.args.names c.args.p c.args.marks.now c.requires.lower c.args.x c.requires.here c.in-Some.first (is_marked c)

pub returns-in-Some-clause-apart : goal.returns-in-Some-clause-apart
returns-in-Some-clause-apart c =
    let at = is_marked (goal.at.returns-in-Some-clause-apart c).In-Some in (
      λ e. (c.in-Some.first, apart_lower c.args.names_rows.now c.args.rows.now c.args.words.now c.args.names c.args.p c.args.marks.now c.requires.lower c.args.x c.requires.here c.in-Some.first at, c.is_apart_from.ensures.0 e),
      λ s. c.is_apart_from.ensures.1 (apart_marked c.args.names_rows.now c.args.rows.now c.args.words.now c.args.names c.args.p c.args.marks.now c.requires.lower c.args.x c.requires.here c.in-Some.first at s),
    )

pub returns-in-Some-clause-marked : goal.returns-in-Some-clause-marked
returns-in-Some-clause-marked c =
    let at = is_marked (goal.at.returns-in-Some-clause-marked c).In-Some in
    λ e. marked_close c.args.names_rows.now c.args.rows.now c.args.words.now c.args.names c.args.p c.args.marks.now c.requires.lower c.args.x c.requires.here c.in-Some.first at
    (λ a. both_ways _ e (c.is_apart_from.ensures.1 a))

pub returns-clause-apart : goal.returns-clause-apart
returns-clause-apart c =
    let blank : marked_for c.args.marks.now (root c.args.rows.now c.args.p) ≡ None = sym (ap (marked_for c.args.marks.now) c.find-root.ensures.root) ∙ sym c.marked_for.ensures ∙ c.in_default.is in
    (λ e. cc, λ s. absurd (none_apart c.args.names_rows.now c.args.rows.now c.args.words.now c.args.names c.args.p c.args.marks.now c.requires.lower c.args.x c.requires.here blank s))

pub returns-clause-marked : goal.returns-clause-marked
returns-clause-marked c =
    let at = c.find-root.ensures.root in
    let blank : marked_for c.args.marks.now (root c.args.rows.now c.args.p) ≡ None = sym (ap (marked_for c.args.marks.now) c.find-root.ensures.root) ∙ sym c.marked_for.ensures ∙ c.in_default.is in
    λ e. rw at
    (marked_first c.args.names_rows.now c.args.rows.now c.args.words.now c.args.names c.args.p c.args.marks.now c.requires.lower c.args.x c.requires.here blank (omega (arith, at, c.find-root.ensures.within)))
