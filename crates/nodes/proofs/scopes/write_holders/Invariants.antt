use Rattle.nodes.proofs.HoldersSet.{HoldersBelow}
use Rattle.nodes.proofs.scopes.write_holders.Given as goal

abbrev pub invariant-loop-p : goal.invariant-loop-p
invariant-loop-p l = HoldersBelow l.size l.fn.words l.p l.words
