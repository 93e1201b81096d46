use Rattle.std.proofs.Common.{ap, arith}
use Rattle.recipe.specs.declared.labels.Finding.{Finding}
use Rattle.sheet.proofs.seeing.label_above.Goals as goal

pub overflow_add-result : goal.overflow_add-result
overflow_add-result c = omega (arith, c.requires c.in-Local.level (ap Finding.Label c.in-Local.is))
