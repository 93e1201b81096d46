use Rattle.nodes.specs.NameSteps.{BinderBelow, NamesAlways}
use Rattle.nodes.specs.Records.{written}
use Rattle.nodes.proofs.names.hide_binders.Given as goal

abbrev pub invariant-loop-p : goal.invariant-loop-p
invariant-loop-p l = NamesAlways (written l.size l.words) l.names (BinderBelow (written l.size l.words) l.p) l.rows
