-- The lists of a reading, as they are lent. Assumes nothing. (only private functions cite it)
use Rattle.leaves.specs.declared.symbol.Symbol.{Symbol}
use Rattle.notation.specs.Reading.{Lists}
use Rattle.read_report.specs.declared.lines.Lent.{Lent}

-- what the lent lists hold
abbrev pub lists_of : Lent → Lists Symbol
lists_of lent = record { places = lent.places.now; names = lent.names.now; holes = lent.holes.now; leaves = lent.leaves.now }
