use Rattle.std.proofs.Common.{[], nat_eq, subst, sym}
use Rattle.recipe.specs.Looks.{Looks}
use Rattle.sheet.specs.Sheet.{numbers, table}
use Rattle.listing.specs.Listed.{HolesListed}
use Rattle.listing.proofs.ListedMore.{holes_more, holes_none}
use Rattle.listing.proofs.answers.+look_at_holes.Goals as goal

pub returns-in_default : goal.returns-in_default
returns-in_default t c = holes_none c.args.sheet.now c.args.places.now c.args.names.now c.args.next c.args.holes.now c.args.lines.now.items c.in_default.ensures.cases

pub returns : goal.returns
returns t c =
    let looked = subst (λ p. Looks nat_eq (table c.args.sheet.now) (numbers c.args.sheet.now) c.args.sheet.now.told p [] c.look-answer.result) c.place_of_hole.ensures c.look-answer.ensures.found in
    subst (λ holes. HolesListed c.args.sheet.now c.args.places.now c.args.names.now c.args.next holes c.args.lines.now.items c.look_at_holes.new.lines.items) (sym c.in-Some.ensures.cases.0)
    (holes_more c.args.sheet.now c.args.places.now c.args.names.now c.args.next c.in-Some.hole.now c.in-Some.rest.now c.args.lines.now.items c.put_hole.new.lines.items c.look_at_holes.new.lines.items c.look-answer.result looked c.put_hole.ensures c.look_at_holes.ensures)
