use Rattle.std.proofs.Common.{◌+◌, ◌*◌, length}
use Rattle.notation.proofs.recipes.+recipes.Given as goal

abbrev pub decreases-list : goal.decreases-list
decreases-list l = 2 * length l.words.now.left

abbrev pub decreases-recipe : goal.decreases-recipe
decreases-recipe l = 2 * length l.words.now.left + 1
