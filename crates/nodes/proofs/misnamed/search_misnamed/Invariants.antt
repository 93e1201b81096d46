use Rattle.std.proofs.Common.{ℕ, ◌<◌}
use Rattle.nodes.specs.MisnamedRoots.{MarkedNames, MisnamedRoot}
use Rattle.nodes.proofs.misnamed.search_misnamed.Given as goal

abbrev pub invariant-loop-p : goal.invariant-loop-p
invariant-loop-p l = record {
  none : (k : ℕ) → k < l.p → MisnamedRoot l.names_rows l.rows l.words l.names k → ⊥;
  marked : MarkedNames l.names_rows l.rows l.words l.names l.p l.marks;
}
