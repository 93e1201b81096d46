use Rattle.listing.proofs.Adding.{adds_more}
use Rattle.listing.proofs.lines.put_carried.Goals as goal

pub returns-in-Some : goal.returns-in-Some
returns-in-Some c = rw c.in-Some.is (adds_more (adds_more c.put_number.ensures c.put.ensures) c.put_number-in-Some.ensures)
