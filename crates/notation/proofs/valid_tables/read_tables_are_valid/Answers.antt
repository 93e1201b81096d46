use Rattle.notation.proofs.ValidRead.{recipes_valid, counted_valid}
use Rattle.notation.proofs.valid_tables.read_tables_are_valid.Goals as goal

pub returns : goal.returns
returns g c = record { recipes = recipes_valid; counts = counted_valid }
