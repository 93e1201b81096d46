use Rattle.std.proofs.Common.{suc, ◌*◌}
use Rattle.nodes.specs.NameRows.{OwnNames}
use Rattle.nodes.proofs.names.init_names.Given as goal

abbrev pub invariant-loop-p : goal.invariant-loop-p
invariant-loop-p l = OwnNames l.words l.names l.rows (suc (l.p * l.names))
