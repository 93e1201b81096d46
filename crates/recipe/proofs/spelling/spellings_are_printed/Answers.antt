use Rattle.recipe.proofs.Printed.{comes_back, printed}
use Rattle.recipe.proofs.spelling.spellings_are_printed.Goals as goal

pub returns-clause-unpacked : goal.returns-clause-unpacked
returns-clause-unpacked c = comes_back

pub returns-clause-printed : goal.returns-clause-printed
returns-clause-printed c = printed
