use Rattle.std.proofs.Common.{decimal, subst}
use Rattle.recipe.specs.Refusals.{carried_text}
use Rattle.listing.specs.Lines.{Adds}
use Rattle.listing.proofs.Adding.{adds_more}
use Rattle.listing.proofs.lines.put_refusal.Goals as goal

pub returns : goal.returns
returns c =
    let number : Adds (decimal _) c.put.new.lines.items c.put_number.new.lines.items = subst (λ n. Adds (decimal n) c.put.new.lines.items c.put_number.new.lines.items) c.number.ensures c.put_number.ensures in
    let carried = subst (λ t. Adds (carried_text t) c.put-2.new.lines.items c.put_carried.new.lines.items) c.carried-first.ensures c.put_carried.ensures in
    adds_more (adds_more (adds_more c.put.ensures number) c.put-2.ensures) carried
