use Rattle.std.proofs.Common.{suc, ◌+◌, ◌*◌}
use Rattle.nodes.specs.NameRows.{OwnNames}
use Rattle.nodes.proofs.names.write_names.Given as goal

abbrev pub invariant-loop-x : goal.invariant-loop-x
invariant-loop-x l = OwnNames l.words l.names l.rows (suc (l.p * l.names + l.x))
