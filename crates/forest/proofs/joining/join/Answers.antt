use Rattle.forest.proofs.OneMore.{one_more}
use Rattle.forest.proofs.joining.join.Goals as goal

pub returns : goal.returns
returns c = one_more c.args.u c.args.v c.args.rows.now c.join_classes.new.rows c.requires.rows c.requires.first c.requires.second c.join_classes.ensures
