use Rattle.recipe.specs.Numbering.{number_of}
use Rattle.nodes.specs.Records.{ChangesOnly, FormWord}
use Rattle.nodes.proofs.Written.{WritesBelow}
use Rattle.nodes.proofs.records.write_records.Given as goal

abbrev pub invariant-loop-p : goal.invariant-loop-p
invariant-loop-p g l = record {
  only : ChangesOnly (FormWord l.p) l.fn.words l.words;
  writes : WritesBelow (number_of g.L.Leaf.equates l.leaves) l.places l.leaves l.p l.words;
}
