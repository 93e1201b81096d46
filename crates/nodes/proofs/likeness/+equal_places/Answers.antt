use Rattle.std.proofs.Common.{length, sym, ap, ◌∙◌, refl, inl, inr, arith}
use Rattle.recipe.specs.Kinds.{code_of}
use Rattle.recipe.specs.declared.places.Kind.{Kind}
use Rattle.recipe.specs.Tables.{scope}
use Rattle.nodes.specs.Records.{written}
use Rattle.nodes.proofs.FormsWritten.{inside_up, left_up, right_up}
use Rattle.nodes.proofs.LikePlaces.{below_binders, binders_few, binders_shallow, binds_equal, both_kinds, both_steps, calls_equal, insides_deep, insides_finished, leaves_equal, lefts_finished, lefts_there, names_equal, names_few, never_equal, never_hole, nils_equal, rights_finished, rights_there}
use Rattle.nodes.proofs.likeness.+equal_places.Goals as goal

pub returns-then-ne-clause-equal : goal.returns-then-ne-clause-equal
returns-then-ne-clause-equal t c =
    λ θ. (
      λ e. absurd cc,
      λ s. absurd (never_equal c.args.size c.args.words.now c.requires.ordered c.args.p c.args.q c.requires.first_place c.requires.second_place _ _ _ c.kind_at-kind.ensures c.kind_at.ensures c.ne.ensures c.if-ne.true c.requires.finished θ s),
    )

pub same_name-requires-clause-first : goal.same_name-requires-clause-first
same_name-requires-clause-first t c =
    (names_few c.args.size c.args.words.now c.requires.ordered c.args.p c.args.q c.requires.first_place c.requires.second_place (both_kinds c.args.words.now c.args.p c.args.q _ _ _ c.kind_at-kind.ensures c.kind_at.ensures c.ne.ensures c.if-ne.false Kind.Name c.in-Name.is) c.requires.names).0

pub same_name-requires-clause-second : goal.same_name-requires-clause-second
same_name-requires-clause-second t c =
    (names_few c.args.size c.args.words.now c.requires.ordered c.args.p c.args.q c.requires.first_place c.requires.second_place (both_kinds c.args.words.now c.args.p c.args.q _ _ _ c.kind_at-kind.ensures c.kind_at.ensures c.ne.ensures c.if-ne.false Kind.Name c.in-Name.is) c.requires.names).1

pub enter-first_before-requires-clause-name : goal.enter-first_before-requires-clause-name
enter-first_before-requires-clause-name t c =
    (binders_few c.args.size c.args.words.now c.requires.ordered c.args.p c.args.q c.requires.first_place c.requires.second_place (both_kinds c.args.words.now c.args.p c.args.q _ _ _ c.kind_at-kind.ensures c.kind_at.ensures c.ne.ensures c.if-ne.false Kind.Bind c.in-Bind.is) c.requires.names).0

pub enter-first_before-requires-clause-shallow : goal.enter-first_before-requires-clause-shallow
enter-first_before-requires-clause-shallow t c =
    let shallow = (binders_shallow c.args.size c.args.words.now c.requires.ordered c.args.p c.args.q c.requires.first_place c.requires.second_place (both_kinds c.args.words.now c.args.p c.args.q _ _ _ c.kind_at-kind.ensures c.kind_at.ensures c.ne.ensures c.if-ne.false Kind.Bind c.in-Bind.is)).0 in let depth = c.requires.first_heights.depth in omega arith

pub enter-second_before-requires-clause-name : goal.enter-second_before-requires-clause-name
enter-second_before-requires-clause-name t c =
    (binders_few c.args.size c.args.words.now c.requires.ordered c.args.p c.args.q c.requires.first_place c.requires.second_place (both_kinds c.args.words.now c.args.p c.args.q _ _ _ c.kind_at-kind.ensures c.kind_at.ensures c.ne.ensures c.if-ne.false Kind.Bind c.in-Bind.is) c.requires.names).1

pub enter-second_before-requires-clause-shallow : goal.enter-second_before-requires-clause-shallow
enter-second_before-requires-clause-shallow t c =
    let shallow = (binders_shallow c.args.size c.args.words.now c.requires.ordered c.args.p c.args.q c.requires.first_place c.requires.second_place (both_kinds c.args.words.now c.args.p c.args.q _ _ _ c.kind_at-kind.ensures c.kind_at.ensures c.ne.ensures c.if-ne.false Kind.Bind c.in-Bind.is)).1 in let depth = c.requires.second_heights.depth in omega arith

pub equal_places-equal-requires : goal.equal_places-equal-requires
equal_places-equal-requires t c =
    let kinds = both_kinds c.args.words.now c.args.p c.args.q _ _ _ c.kind_at-kind.ensures c.kind_at.ensures c.ne.ensures c.if-ne.false Kind.Bind c.in-Bind.is in
    let up = inside_up c.args.size c.args.words.now c.args.p c.requires.first_place c.requires.ordered kinds.0 in
    let up_too = inside_up c.args.size c.args.words.now c.args.q c.requires.second_place c.requires.ordered kinds.1 in
    let below = below_binders c.args.size c.args.words.now c.requires.ordered c.args.p c.args.q c.requires.first_place c.requires.second_place kinds in
    let first = c.enter-first_before.ensures.heights (scope (written c.args.size c.args.words.now) c.args.p) c.requires.first_heights in
    let second = c.enter-second_before.ensures.heights (scope (written c.args.size c.args.words.now) c.args.q) c.requires.second_heights in (
      omega (arith, c.decreases),
      (c.requires.rows, (c.requires.ordered, (c.requires.names, (up.1, (up_too.1, (insides_deep c.args.size c.args.words.now c.requires.ordered c.args.p c.args.q c.requires.first_place c.requires.second_place kinds c.requires.one_depth, (insides_finished c.args.size c.args.words.now c.requires.ordered c.args.p c.args.q c.requires.first_place c.requires.second_place kinds c.requires.finished, (rw below.0 first, rw below.1 second)))))))),
    )

pub leave-requires-clause-name : goal.leave-requires-clause-name
leave-requires-clause-name t c =
    (binders_few c.args.size c.args.words.now c.requires.ordered c.args.p c.args.q c.requires.first_place c.requires.second_place (both_kinds c.args.words.now c.args.p c.args.q _ _ _ c.kind_at-kind.ensures c.kind_at.ensures c.ne.ensures c.if-ne.false Kind.Bind c.in-Bind.is) c.requires.names).0

pub leave-requires-clause-deep : goal.leave-requires-clause-deep
leave-requires-clause-deep t c =
    let below = ap length (below_binders c.args.size c.args.words.now c.requires.ordered c.args.p c.args.q c.requires.first_place c.requires.second_place (both_kinds c.args.words.now c.args.p c.args.q _ _ _ c.kind_at-kind.ensures c.kind_at.ensures c.ne.ensures c.if-ne.false Kind.Bind c.in-Bind.is)).0 in let depth = c.equal_places-equal.ensures.first_heights.depth in omega arith

pub leave-requires-in-Bind-clause-name : goal.leave-requires-in-Bind-clause-name
leave-requires-in-Bind-clause-name t c =
    (binders_few c.args.size c.args.words.now c.requires.ordered c.args.p c.args.q c.requires.first_place c.requires.second_place (both_kinds c.args.words.now c.args.p c.args.q _ _ _ c.kind_at-kind.ensures c.kind_at.ensures c.ne.ensures c.if-ne.false Kind.Bind c.in-Bind.is) c.requires.names).1

pub leave-requires-in-Bind-clause-deep : goal.leave-requires-in-Bind-clause-deep
leave-requires-in-Bind-clause-deep t c =
    let below = ap length (below_binders c.args.size c.args.words.now c.requires.ordered c.args.p c.args.q c.requires.first_place c.requires.second_place (both_kinds c.args.words.now c.args.p c.args.q _ _ _ c.kind_at-kind.ensures c.kind_at.ensures c.ne.ensures c.if-ne.false Kind.Bind c.in-Bind.is)).1 in let depth = c.equal_places-equal.ensures.second_heights.depth in omega arith

pub equal_places-requires : goal.equal_places-requires
equal_places-requires t c =
    let kinds = both_kinds c.args.words.now c.args.p c.args.q _ _ _ c.kind_at-kind.ensures c.kind_at.ensures c.ne.ensures c.if-ne.false Kind.Call c.in-Call.is in
    let up = left_up c.args.size c.args.words.now c.args.p c.requires.first_place c.requires.ordered kinds.0 in
    let up_too = left_up c.args.size c.args.words.now c.args.q c.requires.second_place c.requires.ordered kinds.1 in
    let there = lefts_there c.args.size c.args.words.now c.requires.ordered c.args.p c.args.q c.requires.first_place c.requires.second_place kinds in (
      omega (arith, c.decreases),
      (c.requires.rows, (c.requires.ordered, (c.requires.names, (up.1, (up_too.1, (ap length there.0 ∙ c.requires.one_depth ∙ sym (ap length there.1), (lefts_finished c.args.size c.args.words.now c.requires.ordered c.args.p c.args.q c.requires.first_place c.requires.second_place kinds c.requires.finished, (rw there.0 c.requires.first_heights, rw there.1 c.requires.second_heights)))))))),
    )

pub equal_places-requires-then-equal_places : goal.equal_places-requires-then-equal_places
equal_places-requires-then-equal_places t c =
    let kinds = both_kinds c.args.words.now c.args.p c.args.q _ _ _ c.kind_at-kind.ensures c.kind_at.ensures c.ne.ensures c.if-ne.false Kind.Call c.in-Call.is in
    let up = right_up c.args.size c.args.words.now c.args.p c.requires.first_place c.requires.ordered kinds.0 in
    let up_too = right_up c.args.size c.args.words.now c.args.q c.requires.second_place c.requires.ordered kinds.1 in
    let there = rights_there c.args.size c.args.words.now c.requires.ordered c.args.p c.args.q c.requires.first_place c.requires.second_place kinds in
    let before = lefts_there c.args.size c.args.words.now c.requires.ordered c.args.p c.args.q c.requires.first_place c.requires.second_place kinds in
    let first = rw before.0 at c.equal_places.ensures.first_heights in
    let second = rw before.1 at c.equal_places.ensures.second_heights in (
      omega (arith, c.decreases),
      (c.requires.rows, (c.requires.ordered, (c.requires.names, (up.1, (up_too.1, (ap length there.0 ∙ c.requires.one_depth ∙ sym (ap length there.1), (rights_finished c.args.size c.args.words.now c.requires.ordered c.args.p c.args.q c.requires.first_place c.requires.second_place kinds c.requires.finished, (rw there.0 first, rw there.1 second)))))))),
    )

pub returns-in-Nil-clause-equal : goal.returns-in-Nil-clause-equal
returns-in-Nil-clause-equal t c =
    elim c.in-Nil.is [
      | inl is ↦ λ θ. (
        λ e. nils_equal c.args.size c.args.words.now c.requires.ordered c.args.p c.args.q c.requires.first_place c.requires.second_place (both_kinds c.args.words.now c.args.p c.args.q _ _ _ c.kind_at-kind.ensures c.kind_at.ensures c.ne.ensures c.if-ne.false Kind.Nil is) θ,
        λ s. refl,
      )
      | inr is ↦ absurd (never_hole c.args.size c.args.words.now c.requires.ordered c.args.p c.args.q c.requires.first_place c.requires.second_place (sym c.kind_at-kind.ensures ∙ ap code_of is) c.requires.finished)
    ]

pub returns-in-Leaf-clause-equal : goal.returns-in-Leaf-clause-equal
returns-in-Leaf-clause-equal t c =
    leaves_equal c.args.size c.args.words.now c.requires.ordered c.args.p c.args.q c.requires.first_place c.requires.second_place (both_kinds c.args.words.now c.args.p c.args.q _ _ _ c.kind_at-kind.ensures c.kind_at.ensures c.ne.ensures c.if-ne.false Kind.Leaf c.in-Leaf.is)

pub returns-in-Name-clause-equal : goal.returns-in-Name-clause-equal
returns-in-Name-clause-equal t c =
    λ θ.
    both_steps (c.same_name.ensures (scope (written c.args.size c.args.words.now) c.args.p) (scope (written c.args.size c.args.words.now) c.args.q) c.requires.first_heights c.requires.second_heights c.requires.one_depth)
    (names_equal c.args.size c.args.words.now c.requires.ordered c.args.p c.args.q c.requires.first_place c.requires.second_place (both_kinds c.args.words.now c.args.p c.args.q _ _ _ c.kind_at-kind.ensures c.kind_at.ensures c.ne.ensures c.if-ne.false Kind.Name c.in-Name.is) θ)

pub returns-in-Bind-clause-equal : goal.returns-in-Bind-clause-equal
returns-in-Bind-clause-equal t c =
    λ θ. both_steps (c.equal_places-equal.ensures.equal θ) (binds_equal c.args.size c.args.words.now c.requires.ordered c.args.p c.args.q c.requires.first_place c.requires.second_place (both_kinds c.args.words.now c.args.p c.args.q _ _ _ c.kind_at-kind.ensures c.kind_at.ensures c.ne.ensures c.if-ne.false Kind.Bind c.in-Bind.is) θ)

pub returns-in-Bind-clause-first_heights : goal.returns-in-Bind-clause-first_heights
returns-in-Bind-clause-first_heights t c =
    let below = (below_binders c.args.size c.args.words.now c.requires.ordered c.args.p c.args.q c.requires.first_place c.requires.second_place (both_kinds c.args.words.now c.args.p c.args.q _ _ _ c.kind_at-kind.ensures c.kind_at.ensures c.ne.ensures c.if-ne.false Kind.Bind c.in-Bind.is)).0 in
    c.leave.ensures (scope (written c.args.size c.args.words.now) c.args.p) (rw below at c.equal_places-equal.ensures.first_heights)
    (c.enter-first_before.ensures.before (scope (written c.args.size c.args.words.now) c.args.p) c.requires.first_heights)

pub returns-in-Bind-clause-second_heights : goal.returns-in-Bind-clause-second_heights
returns-in-Bind-clause-second_heights t c =
    let below = (below_binders c.args.size c.args.words.now c.requires.ordered c.args.p c.args.q c.requires.first_place c.requires.second_place (both_kinds c.args.words.now c.args.p c.args.q _ _ _ c.kind_at-kind.ensures c.kind_at.ensures c.ne.ensures c.if-ne.false Kind.Bind c.in-Bind.is)).1 in
    c.leave-in-Bind.ensures (scope (written c.args.size c.args.words.now) c.args.q) (rw below at c.equal_places-equal.ensures.second_heights)
    (c.enter-second_before.ensures.before (scope (written c.args.size c.args.words.now) c.args.q) c.requires.second_heights)

pub returns-then-equal_places-clause-equal : goal.returns-then-equal_places-clause-equal
returns-then-equal_places-clause-equal t c =
    let calls = calls_equal c.args.size c.args.words.now c.requires.ordered c.args.p c.args.q c.requires.first_place c.requires.second_place (both_kinds c.args.words.now c.args.p c.args.q _ _ _ c.kind_at-kind.ensures c.kind_at.ensures c.ne.ensures c.if-ne.false Kind.Call c.in-Call.is) in
    λ θ. (
      λ e. (calls θ).0 ((c.equal_places.ensures.equal θ).0 c.if-equal_places.true, (c.equal_places-then-equal_places.ensures.equal θ).0 e),
      λ s. (c.equal_places-then-equal_places.ensures.equal θ).1 ((calls θ).1 s).1,
    )

pub returns-then-equal_places-clause-first_heights : goal.returns-then-equal_places-clause-first_heights
returns-then-equal_places-clause-first_heights t c =
    let there = (rights_there c.args.size c.args.words.now c.requires.ordered c.args.p c.args.q c.requires.first_place c.requires.second_place (both_kinds c.args.words.now c.args.p c.args.q _ _ _ c.kind_at-kind.ensures c.kind_at.ensures c.ne.ensures c.if-ne.false Kind.Call c.in-Call.is)).0 in rw there at c.equal_places-then-equal_places.ensures.first_heights

pub returns-then-equal_places-clause-second_heights : goal.returns-then-equal_places-clause-second_heights
returns-then-equal_places-clause-second_heights t c =
    let there = (rights_there c.args.size c.args.words.now c.requires.ordered c.args.p c.args.q c.requires.first_place c.requires.second_place (both_kinds c.args.words.now c.args.p c.args.q _ _ _ c.kind_at-kind.ensures c.kind_at.ensures c.ne.ensures c.if-ne.false Kind.Call c.in-Call.is)).1 in rw there at c.equal_places-then-equal_places.ensures.second_heights

pub returns-else-equal_places-clause-equal : goal.returns-else-equal_places-clause-equal
returns-else-equal_places-clause-equal t c =
    let calls = calls_equal c.args.size c.args.words.now c.requires.ordered c.args.p c.args.q c.requires.first_place c.requires.second_place (both_kinds c.args.words.now c.args.p c.args.q _ _ _ c.kind_at-kind.ensures c.kind_at.ensures c.ne.ensures c.if-ne.false Kind.Call c.in-Call.is) in
    λ θ. (λ e. absurd cc, λ s. (c.equal_places.ensures.equal θ).1 ((calls θ).1 s).0)

pub returns-else-equal_places-clause-first_heights : goal.returns-else-equal_places-clause-first_heights
returns-else-equal_places-clause-first_heights t c =
    let there = (lefts_there c.args.size c.args.words.now c.requires.ordered c.args.p c.args.q c.requires.first_place c.requires.second_place (both_kinds c.args.words.now c.args.p c.args.q _ _ _ c.kind_at-kind.ensures c.kind_at.ensures c.ne.ensures c.if-ne.false Kind.Call c.in-Call.is)).0 in rw there at c.equal_places.ensures.first_heights

pub returns-else-equal_places-clause-second_heights : goal.returns-else-equal_places-clause-second_heights
returns-else-equal_places-clause-second_heights t c =
    let there = (lefts_there c.args.size c.args.words.now c.requires.ordered c.args.p c.args.q c.requires.first_place c.requires.second_place (both_kinds c.args.words.now c.args.p c.args.q _ _ _ c.kind_at-kind.ensures c.kind_at.ensures c.ne.ensures c.if-ne.false Kind.Call c.in-Call.is)).1 in rw there at c.equal_places.ensures.second_heights
