use Rattle.std.proofs.Common.{◌+◌, ◌*◌, length}
use Rattle.sheet.proofs.walking.+walk.Given as goal

abbrev pub decreases-find_solid : goal.decreases-find_solid
decreases-find_solid l = 2 * length l.path.now

abbrev pub decreases-find : goal.decreases-find
decreases-find l = 2 * length l.path.now + 1
