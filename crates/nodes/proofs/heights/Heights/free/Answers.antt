use Rattle.nodes.proofs.ScopeHeights.{heights_free}
use Rattle.nodes.proofs.heights.Heights.free.Goals as goal

pub returns : goal.returns
returns c = heights_free
