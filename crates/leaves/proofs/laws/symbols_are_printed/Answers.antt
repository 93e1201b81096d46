use Rattle.leaves.proofs.Symbols.{symbol_printed}
use Rattle.leaves.proofs.laws.symbols_are_printed.Goals as goal

pub returns : goal.returns
returns c = symbol_printed
