use Rattle.nodes.specs.NameSteps.{NamesAlways}
use Rattle.nodes.proofs.HoleNames.{BindersAndBelow}
use Rattle.nodes.specs.Records.{written}
use Rattle.nodes.proofs.names.join_hole_names.Given as goal

abbrev pub invariant-loop-p : goal.invariant-loop-p
invariant-loop-p l = NamesAlways (written l.size l.words) l.names (BindersAndBelow (written l.size l.words) l.names l.p) l.rows
