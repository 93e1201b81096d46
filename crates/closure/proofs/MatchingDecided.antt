-- The decision: a filling exists exactly where the closures are consistent, which can be decided, and any closed recipe can fill what is left open. Assumes nothing.
use Rattle.std.proofs.Common.{Bool}
use Rattle.recipe.specs.Sameness.{Sameness}
use Rattle.closure.specs.Decision.{DecisionExact}
use Rattle.closure.proofs.Building.{built, built_open, built_satisfies}
use Rattle.closure.proofs.CausesFound.{consistent_decided}
use Rattle.closure.proofs.FillingExists.{decision_exact}

pub decides : {L : Type 0} (same : L → L → Bool) → Sameness same → DecisionExact same
decides same laws T m pairs ready = record {
  exact = decision_exact laws ready;
  either = consistent_decided ready laws;
  any_closed = λ closures closed shut. (built laws ready closures closed shut, built_satisfies laws ready closures closed shut, built_open laws ready closures closed shut);
}
