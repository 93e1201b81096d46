use Rattle.nodes.specs.Opposed.{Marked}
use Rattle.nodes.proofs.clash.has_clash.Given as goal

abbrev pub invariant-loop-p : goal.invariant-loop-p
invariant-loop-p l = Marked l.rows l.words l.p l.marks
