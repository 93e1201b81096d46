use Rattle.nodes.proofs.HoldersSet.{holder_set}
use Rattle.nodes.proofs.scopes.set_holder.Goals as goal

pub returns : goal.returns
returns c = holder_set c.args.words.now c.args.place c.args.p c.requires.row
