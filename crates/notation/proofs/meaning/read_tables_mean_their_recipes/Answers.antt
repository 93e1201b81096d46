use Rattle.notation.proofs.SpellingsListed.{numbers_tell}
use Rattle.notation.proofs.MeaningRead.{recipes_meant, counted_meant}
use Rattle.notation.proofs.meaning.read_tables_mean_their_recipes.Goals as goal

pub returns : goal.returns
returns g c = record { recipes = recipes_meant; counts = counted_meant; numbers = numbers_tell }
