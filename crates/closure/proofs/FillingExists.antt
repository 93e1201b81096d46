-- A filling exists exactly where the closures are consistent. Assumes nothing.
use Rattle.std.proofs.Common.{ℕ, Bool, ◌↔◌, List}
use Rattle.recipe.specs.Fillings.{Pair, Satisfiable}
use Rattle.recipe.specs.Recipes.{Recipe}
use Rattle.recipe.specs.Sameness.{Sameness}
use Rattle.recipe.specs.Tables.{Table}
use Rattle.closure.specs.Decision.{Consistent, WellFormed}
use Rattle.closure.proofs.Building.{built, built_satisfies}
use Rattle.closure.proofs.Kept.{consistent}

module _ {L : Type 0} {same : L → L → Bool} (laws : Sameness same) {T : Table L} {m : ℕ} {pairs : List Pair} (ready : WellFormed T m pairs) where
  pub decision_exact : Satisfiable same T pairs ↔ Consistent same T m pairs
  decision_exact = (
    λ filling. consistent laws ready filling.0 filling.1,
    λ closures. (built laws ready closures Recipe.nil (λ x f. f), built_satisfies laws ready closures Recipe.nil (λ x f. f)),
  )
