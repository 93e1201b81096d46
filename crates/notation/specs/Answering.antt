-- What a text answers for a kind of leaves, before the lists of a refused one are cleared. Assumes nothing. (only private functions cite it)
use Rattle.std.specs.Prelude.{ℕ, List, Ok, Err, Option, Result}
use Rattle.recipe.specs.declared.places.Place.{Place}
use Rattle.recipe.specs.declared.refusals.Refusal.{Refusal}
use Rattle.tokens.specs.Tokens.{Token}
use Rattle.notation.specs.declared.counts.Counts.{Counts}
use Rattle.notation.specs.Fitting.{Room}
use Rattle.notation.specs.Verdict.{Refused}
use Rattle.notation.specs.Progress.{Tabled}
use Rattle.notation.specs.Sweeping.{AllRead}

-- three lists have the table of the tokens s, and their leaf words are read
pub record Readable {L : Type 0} (reads : List ℕ → Option L) (most : Room) (s : List Token) (places : List Place) (names holes : List ℕ) (counts : Counts) : Type 0 where
  pub tabled : Tabled most s places names holes counts
  pub read : AllRead reads s

-- that, or a refusal
abbrev pub ReadableOrRefused : {L : Type 0} → (List ℕ → Option L) → Room → ℕ → List Token → List Place → List ℕ → List ℕ → Result Counts Refusal → Type 0
ReadableOrRefused reads most size s places names holes (Ok counts) = Readable reads most s places names holes counts
ReadableOrRefused reads most size s places names holes (Err why) = Refused most size reads s why
