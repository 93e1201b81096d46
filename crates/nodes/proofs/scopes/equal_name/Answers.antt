use Rattle.std.proofs.Common.{◌≢◌, Some, sym, ap, ◌∙◌}
use Rattle.recipe.specs.Scopes.{Scope, inner}
use Rattle.recipe.specs.Tables.{scope}
use Rattle.nodes.specs.Records.{written}
use Rattle.nodes.proofs.EqualNamesFound.{bound_there, none_there, other_there, told_apart}
use Rattle.nodes.proofs.scopes.equal_name.Goals as goal
use Rattle.nodes.proofs.scopes.equal_name.Goals.{Else-eq, in-Some+in_ok-candidate-in-Some, in-None}

pub returns-in_err-candidate-in-Some : goal.returns-in_err-candidate-in-Some
returns-in_err-candidate-in-Some c =
    rw c.from_residual.ensures
    (λ y.
    none_there (scope (written c.args.size c.args.words.now) c.args.p) (scope (written c.args.size c.args.words.now) c.args.q) c.args.name c.in-Some.position y
    (sym c.inner_number-number.ensures ∙ c.in-Some.is) (sym c.binder_at.ensures ∙ c.in_err-candidate-in-Some.was))

-- the candidate has another inner number
apart : (c : Else-eq) → inner (scope (written c.args.size c.args.words.now) c.args.q) c.match-number.candidate ≢ c.match-number.number
apart c same = told_apart _ _ (sym c.eq.ensures ∙ c.if-eq.false) (c.inner_number.ensures ∙ same)

pub returns-else-eq : goal.returns-else-eq
returns-else-eq c =
    let Φ : Scope = scope (written c.args.size c.args.words.now) c.args.p in
    let Ψ : Scope = scope (written c.args.size c.args.words.now) c.args.q in
    let other = apart (goal.at.returns-else-eq c).Else-eq in
    λ y. elim c.match-number.branch [
      | in-Some+in_ok-candidate-in-Some w ↦
          other_there Φ Ψ c.args.name w.in-Some.position c.match-number.candidate y (sym c.inner_number-number.ensures ∙ w.in-Some.is)
          (sym w.binder_at.ensures ∙ w.in_ok-candidate-in-Some.was ∙ ap Some (sym w.candidate-is))
          (λ e. other (e ∙ sym w.number-is))
      | in-None w ↦
          bound_there Φ Ψ c.args.name y (sym c.inner_number-number.ensures ∙ w.in-None.is)
          (λ e. other (ap (inner Ψ) w.candidate-is ∙ e ∙ sym (w.number-is ∙ w.in-None.is)))
    ]
