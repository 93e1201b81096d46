use Rattle.forest.proofs.Linking.{Taken}
use Rattle.forest.proofs.joining.link.Given as goal

abbrev pub invariant-loop-side : goal.invariant-loop-side
invariant-loop-side l = Taken l.low l.high l.side l.fn.rows l.rows
