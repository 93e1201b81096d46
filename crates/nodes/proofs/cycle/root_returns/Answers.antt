use Rattle.std.proofs.Common.{◌≡◌, ℕ, get_or, ap, ◌∙◌}
use Rattle.std.proofs.lemmas.Bool.{true_from_ne_false}
use Rattle.recipe.proofs.Lists.{replicate_at}
use Rattle.nodes.proofs.MissedGoals.{none_leads}
use Rattle.nodes.proofs.cycle.root_returns.Goals as goal

pub returns : goal.returns
returns c =
    let at = c.find-root.ensures.root in
    let blank : (x : ℕ) → get_or c.fill.new.self x 0 ≡ 0 = λ x. ap (λ marks. get_or marks x 0) (c.fill.ensures.after (λ y e. e)) ∙ replicate_at _ x 0 in (
      λ e. rw at at (c.leads_to.ensures.leads e),
      λ l. true_from_ne_false c.leads_to.result
          (λ e.
          let all = c.leads_to.ensures.passed e in
          none_leads c.args.rows.now c.find-root.result c.fill.new.self c.leads_to.new.marks blank all.some all.misses all.here (rw (← at) at l)),
    )
