use Rattle.std.proofs.Common.{arith, le-leb, subst, sym}
use Rattle.std.proofs.lemmas.Bool.{cond-true}
use Rattle.recipe.specs.Alike.{Alikes}
use Rattle.nodes.specs.Heights.{FewNames}
use Rattle.nodes.specs.Records.{written}
use Rattle.sheet.proofs.Solving.{few_names}
use Rattle.sheet.proofs.comparing.alike.Goals as goal

pub returns-then-p-size : goal.returns-then-p-size
returns-then-p-size c = Alikes.refused (cond-true _ _ _ (le-leb c.args.size c.args.p c.if-p-size.true))

pub alike-requires-clause-names : goal.alike-requires-clause-names
alike-requires-clause-names c =
    let (names, told, solved) = c.requires.solved in
    subst (λ ws. FewNames (written c.args.size ws)) (sym c.records_of.ensures.records) (few_names (solved.words (omega (arith, c.if-p-size.false))).table)
