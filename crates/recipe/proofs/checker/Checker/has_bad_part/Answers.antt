use Rattle.std.proofs.Common.{◌||◌, leb, rules}
use Rattle.recipe.proofs.checker.Checker.has_bad_part.Goals as goal

pub returns : goal.returns
returns c = c.any_part.ensures (λ part. leb part c.args.p || leb c.args.self.now.size part) (λ part r answer. search rules)
