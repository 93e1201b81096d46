use Rattle.nodes.specs.NameSteps.{PairsMore, same_names}
use Rattle.nodes.proofs.names.join_same_names.Given as goal

abbrev pub invariant-loop-x : goal.invariant-loop-x
invariant-loop-x l = PairsMore (same_names l.names l.p l.q l.x) l.fn.rows l.rows
