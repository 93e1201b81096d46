-- How symbols and rates are printed. Assumes nothing. (docs/RULES.md, "Symbols" and "Rates")
use Rattle.std.specs.Prelude.{ℕ, ◌≤◌, List, ◌++◌, codes, decimal}
use Rattle.recipe.specs.Packing.{spelling_text}
use Rattle.leaves.specs.Rates.{largest}
use Rattle.leaves.specs.declared.rate.Rate.{Rate}
use Rattle.leaves.specs.declared.symbol.Symbol.{Symbol}

-- a symbol as it is spelled: an apostrophe, and the name that it packs
abbrev pub symbol_text : Symbol → List ℕ
symbol_text x = codes "'" ++ spelling_text x.packed

-- a rate as a fraction, unreduced
abbrev pub rate_text : Rate → List ℕ
rate_text x = decimal x.numerator ++ codes "/" ++ decimal x.denominator

-- both numbers of the rate are ones that are read
pub record Readable (x : Rate) : Type 0 where
  pub top : x.numerator ≤ largest
  pub nonzero : 1 ≤ x.denominator
  pub bottom : x.denominator ≤ largest
