use Rattle.std.proofs.Common.{arith, subst, sym}
use Rattle.nodes.specs.NonHoles.{FindsNonHole}
use Rattle.nodes.specs.PlaceClasses.{PlacesJoined}
use Rattle.nodes.specs.Records.{written}
use Rattle.nodes.proofs.PlacesLinked.{roots_link}
use Rattle.sheet.proofs.answers.non_hole.Goals as goal

pub non_hole-requires-clause-forest : goal.non_hole-requires-clause-forest
non_hole-requires-clause-forest c = let (told, solved) = c.requires.solved in rw c.first_rows.ensures.places (solved.words (omega (arith, c.requires.place))).first.places.exact.rows

pub non_hole-requires-clause-joined : goal.non_hole-requires-clause-joined
non_hole-requires-clause-joined c =
    let (told, solved) = c.requires.solved in
    let first = subst (PlacesJoined (written c.args.size _) told) (sym c.first_rows.ensures.places) (solved.words (omega (arith, c.requires.place))).first.places in
    (told, subst (λ ws. PlacesJoined (written c.args.size ws) told c.first_rows.result.0.now) (sym c.records_of.ensures.records) first)

pub returns : goal.returns
returns c told solved =
    let first = subst (PlacesJoined (written c.args.size _) told) (sym c.first_rows.ensures.places) (solved.words (omega (arith, c.requires.place))).first.places in
    let places = subst (λ ws. PlacesJoined (written c.args.size ws) told c.first_rows.result.0.now) (sym c.records_of.ensures.records) first in
    subst (λ ws. FindsNonHole (written c.args.size ws) told c.args.p c.non_hole.result) c.records_of.ensures.records (c.non_hole.ensures told places (roots_link _ told _ places))
