use Rattle.listing.proofs.Adding.{adds_more}
use Rattle.listing.proofs.lines.put_over.Goals as goal

pub returns : goal.returns
returns c = adds_more (adds_more c.put.ensures c.put_number.ensures) c.put-2.ensures
