use Rattle.recipe.specs.Sameness.{Sameness}
use Rattle.sheet.proofs.RightPlay.{alike_of_table, right_of_table}
use Rattle.sheet.proofs.laws.answers_are_of_the_table.Goals as goal

pub returns : goal.returns
returns g c =
    let laws : Sameness g.L.Leaf.equates = record {
      reflexive = g.met.L.Leaf.reflexive;
      symmetric = g.met.L.Leaf.symmetric;
      transitive = g.met.L.Leaf.transitive;
    } in
    record { history = right_of_table g.L.Leaf.equates laws; alike = alike_of_table g.L.Leaf.equates laws }
