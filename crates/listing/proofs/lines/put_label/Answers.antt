use Rattle.std.proofs.Common.{subst}
use Rattle.listing.specs.Lines.{Adds}
use Rattle.recipe.specs.Packing.{unpacked}
use Rattle.listing.proofs.Adding.{adds_more}
use Rattle.listing.proofs.lines.put_label.Goals as goal

pub returns-in-Name : goal.returns-in-Name
returns-in-Name c = rw c.in-Name.is (adds_more c.put-in-Name.ensures (subst (λ n. Adds (unpacked n) c.put-in-Name.new.lines.items c.put_spelling.new.lines.items) c.spelling_at.ensures c.put_spelling.ensures))

pub returns-in-Local : goal.returns-in-Local
returns-in-Local c = rw c.in-Local.is (adds_more c.put-in-Local.ensures c.put_number.ensures)
