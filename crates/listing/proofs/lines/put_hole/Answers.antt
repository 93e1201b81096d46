use Rattle.listing.proofs.Adding.{adds_more}
use Rattle.listing.proofs.lines.put_hole.Goals as goal

pub returns : goal.returns
returns c = adds_more (adds_more (adds_more c.put_spelling.ensures c.put.ensures) c.put_look.ensures) c.put-2.ensures
