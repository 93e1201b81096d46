use Rattle.std.proofs.Common.{length, refl, arith}
use Rattle.recipe.specs.Numbering.{number_of}
use Rattle.recipe.specs.Sameness.{Sameness}
use Rattle.nodes.proofs.Written.{WritesBelow, one_more, only_more, only_set}
use Rattle.nodes.proofs.WrittenTables.{written_ordered, written_same}
use Rattle.nodes.proofs.records.write_records.Goals as goal

pub loop-p-init : goal.loop-p-init
loop-p-init g c = record { only = λ i other. refl; writes = λ k h. absurd (omega arith) }

pub loop-p-preserved : goal.loop-p-preserved
loop-p-preserved g c = record {
  only = only_set _ _ _ _ (c.loop-p.p, omega arith, omega arith, omega arith)
      (only_set _ _ _ _ (c.loop-p.p, omega arith, omega arith, omega arith)
      (only_set _ _ _ _ (c.loop-p.p, omega arith, omega arith, omega arith) (only_more c.loop-p.p _ _ c.loop-p.invariant.only)));
  writes = one_more (number_of g.L.Leaf.equates c.args.leaves.now) c.args.places.now c.args.leaves.now c.loop-p.words c.loop-p.p c.number_or_a.result (record { kind = 0; a = 0; b = 0 }) (omega arith) c.loop-p-test.true c.number_or_a.ensures c.loop-p.invariant.writes;
}

pub returns-clause-ordered : goal.returns-clause-ordered
returns-clause-ordered g c =
    let number = number_of g.L.Leaf.equates c.args.leaves.now in
    let below : WritesBelow number c.args.places.now c.args.leaves.now (length c.args.places.now) c.loop-p.words = λ p h. c.loop-p.invariant.writes p (omega arith) in
    written_ordered number c.args.places.now c.args.leaves.now c.loop-p.words below c.requires.valid.ordered

pub returns-clause-same : goal.returns-clause-same
returns-clause-same g c =
    let laws : Sameness g.L.Leaf.equates = record {
      reflexive = g.met.L.Leaf.reflexive;
      symmetric = g.met.L.Leaf.symmetric;
      transitive = g.met.L.Leaf.transitive;
    } in
    written_same g.L.Leaf.equates laws c.args.places.now c.args.leaves.now c.loop-p.words (λ p h. c.loop-p.invariant.writes p (omega arith))
