use Rattle.listing.proofs.Adding.{adds_more}
use Rattle.listing.proofs.lines.put_leaf.Goals as goal

pub returns-in-Some : goal.returns-in-Some
returns-in-Some c = rw c.in-Some.is (adds_more c.put-in-Some.ensures c.put_number.ensures)
