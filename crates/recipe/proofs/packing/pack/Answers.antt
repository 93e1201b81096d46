use Rattle.std.proofs.Common.{rules}
use Rattle.recipe.proofs.PackedOnce.{packed_once, packed_padded}
use Rattle.recipe.proofs.packing.pack.Goals as goal

pub returns-clause-value : goal.returns-clause-value
returns-clause-value c = let padded = packed_padded c.args.bytes.now in search rules

pub returns-clause-once : goal.returns-clause-once
returns-clause-once c s other t e = packed_once other c.args.bytes.now t s e
