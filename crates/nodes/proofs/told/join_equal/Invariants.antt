use Rattle.nodes.specs.Records.{written}
use Rattle.nodes.specs.ToldNames.{SaidFirst, SaidMore}
use Rattle.nodes.proofs.told.join_equal.Given as goal

abbrev pub invariant-loop-x : goal.invariant-loop-x
invariant-loop-x l = SaidMore (written l.size l.words) l.names l.p l.q (SaidFirst (written l.size l.words) l.p l.q l.x) l.fn.rows l.rows
