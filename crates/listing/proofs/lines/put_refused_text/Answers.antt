use Rattle.listing.proofs.Adding.{adds_more}
use Rattle.listing.proofs.lines.put_refused_text.Goals as goal

pub returns : goal.returns
returns c = adds_more (adds_more c.put.ensures c.put_refusal.ensures) c.put-2.ensures
