use Rattle.std.proofs.Common.{arith, refl, subst, sym}
use Rattle.nodes.specs.NameClasses.{NamesJoined}
use Rattle.nodes.proofs.NamesClassed.{roots_join}
use Rattle.sheet.specs.Solved.{written_table}
use Rattle.sheet.proofs.answers.joined_name.Goals as goal

pub joined_name-requires-clause-forest : goal.joined_name-requires-clause-forest
joined_name-requires-clause-forest c = let (told, solved) = c.requires.solved in rw c.first_rows.ensures.names (solved.words (omega (arith, c.requires.first))).first.names.exact.rows

pub joined_name-requires-clause-roots : goal.joined_name-requires-clause-roots
joined_name-requires-clause-roots c =
    let (told, solved) = c.requires.solved in
    let table = written_table c.args.size c.args.memory.now in (
      table,
      told,
      refl,
      roots_join table c.args.names told solved.ready _ (subst (NamesJoined table c.args.names told) (sym c.first_rows.ensures.names) (solved.words (omega (arith, c.requires.first))).first.names),
    )

pub returns : goal.returns
returns c told solved =
    let table = written_table c.args.size c.args.memory.now in
    c.joined_name.ensures table told refl
    (roots_join table c.args.names told solved.ready _ (subst (NamesJoined table c.args.names told) (sym c.first_rows.ensures.names) (solved.words (omega (arith, c.requires.first))).first.names))
