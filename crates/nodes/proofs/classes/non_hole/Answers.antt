use Rattle.nodes.proofs.NonHolesFound.{non_hole_found}
use Rattle.nodes.proofs.classes.non_hole.Goals as goal

pub returns : goal.returns
returns c told joined roots = non_hole_found c.args.size c.args.words.now c.args.rows.now told joined roots c.args.p c.requires.place c.non_hole_mate.result c.non_hole_mate.ensures
