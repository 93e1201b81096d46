use Rattle.std.proofs.Common.{nat_eq, rules}
use Rattle.recipe.proofs.places.Place.has_part.Goals as goal

pub returns : goal.returns
returns c = c.any_part.ensures (λ part. nat_eq part c.args.place) (λ part r answer. search rules)
