-- What is found at one place of a table, as a look goes down from it. Assumes nothing. (docs/RULES.md, "The memory")
use Rattle.std.specs.Prelude.{◌≡◌, ℕ, ◌<◌, ◌≢◌, Option, MatchOption}
use Rattle.recipe.specs.Common.{In}
use Rattle.recipe.specs.Recipes.{Part}
use Rattle.recipe.specs.Tables.{Form, parts}
use Rattle.recipe.specs.declared.labels.Finding.{Finding}
use Rattle.recipe.specs.declared.labels.Label.{Label}

-- no part of the form is at the step, or one is: this place, under this binder or under none (only private functions cite this and what follows)
abbrev pub FindsPart : {L : Type 0} → Form L → ℕ → Option (ℕ × Option ℕ) → Type 0
FindsPart form step r =
    MatchOption r ((y : Part ℕ) → In y (parts form) → y.step ≢ step) (λ found. In (record { step = step; at = found.0; under = found.1 }) (parts form))

-- a finding is a free name, with its number, or is none
abbrev pub FindsName : Finding → Option ℕ → Type 0
FindsName found r =
    MatchOption r ((x : ℕ) → found ≢ Finding.Label (Label.Name x)) (λ x. found ≡ Finding.Label (Label.Name x))

-- a level that is found is below n
abbrev pub LevelBelow : ℕ → Finding → Type 0
LevelBelow n found = (level : ℕ) → found ≡ Finding.Label (Label.Local level) → level < n
