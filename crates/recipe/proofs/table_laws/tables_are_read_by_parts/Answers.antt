use Rattle.recipe.proofs.ByParts.{table_laws_lem}
use Rattle.recipe.proofs.table_laws.tables_are_read_by_parts.Goals as goal

pub returns : goal.returns
returns g c = table_laws_lem
