use Rattle.std.proofs.Common.{[]}
use Rattle.nodes.specs.Records.{written}
use Rattle.nodes.proofs.PlacesLinked.{roots_link}
use Rattle.nodes.proofs.places.open_places.Goals as goal

pub returns-clause-roots : goal.returns-clause-roots
returns-clause-roots c = roots_link (written c.args.size c.args.words.now) [] c.join_holes.new.rows c.join_holes.ensures
