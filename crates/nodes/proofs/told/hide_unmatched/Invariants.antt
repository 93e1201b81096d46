use Rattle.nodes.specs.Records.{written}
use Rattle.nodes.specs.ToldNames.{SaidMore, SaidSecond}
use Rattle.nodes.proofs.told.hide_unmatched.Given as goal

abbrev pub invariant-loop-y : goal.invariant-loop-y
invariant-loop-y l = SaidMore (written l.size l.words) l.names l.p l.q (SaidSecond (written l.size l.words) l.p l.q l.y) l.fn.rows l.rows
