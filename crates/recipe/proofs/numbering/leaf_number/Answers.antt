use Rattle.recipe.proofs.Sameness.{Sameness}
use Rattle.recipe.proofs.Numbers.{numbered}
use Rattle.recipe.proofs.numbering.leaf_number.Goals as goal

pub returns : goal.returns
returns g c =
    let laws : Sameness g.L.Leaf.equates = record {
      reflexive = g.met.L.Leaf.reflexive;
      symmetric = g.met.L.Leaf.symmetric;
      transitive = g.met.L.Leaf.transitive;
    } in
    numbered g.L.Leaf.equates laws c.args.leaves.now c.args.leaf.now c.first_same.result c.first_same.ensures
