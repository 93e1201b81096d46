use Rattle.std.proofs.Common.{[], ◌∷◌, ◌++◌}
use Rattle.nodes.proofs.PlacesLinked.{places_told, roots_link}
use Rattle.nodes.proofs.places.tell_places.Goals as goal

pub returns : goal.returns
returns c T told joined =
    let more = places_told T told c.args.p c.args.q c.args.rows.now c.join.new.rows c.join.auto.rows joined c.join.ensures in
    (more, roots_link T (told ++ ((c.args.p, c.args.q) ∷ [])) c.join.new.rows more)
