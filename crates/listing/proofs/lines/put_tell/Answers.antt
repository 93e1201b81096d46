use Rattle.listing.proofs.Adding.{adds_more}
use Rattle.listing.proofs.lines.put_tell.Goals as goal

pub returns : goal.returns
returns c = adds_more (adds_more (adds_more (adds_more (adds_more (adds_more c.put.ensures c.put_number.ensures) c.put-2.ensures) c.put_number-2.ensures) c.put-3.ensures) c.put_answer.ensures) c.put-4.ensures
