use Rattle.std.proofs.Common.{rules}
use Rattle.recipe.specs.Packing.{unpacked}
use Rattle.recipe.proofs.Printed.{as_number}
use Rattle.recipe.proofs.spelling.PackedSpellingDisplay.fmt.Goals as goal

pub returns-in-Err-clause-writes : goal.returns-in-Err-clause-writes
unfolding unpacked
returns-in-Err-clause-writes g c plain ok =
    let written = as_number c.args.self.now.0 _ (search rules) c.in-Err.ensures.cases.0 in
    rw written (search rules)
