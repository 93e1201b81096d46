use Rattle.std.proofs.Common.{◌∙◌, ◌+◌, ◌-◌, ◌≤◌, ap, arith, length, min, subst, sym, take}
use Rattle.std.proofs.lemmas.List.{length-take}
use Rattle.listing.specs.Lines.{Adds}
use Rattle.listing.proofs.Adding.{adds_fit, said_of}
use Rattle.listing.proofs.lines.put.Goals as goal

pub returns : goal.returns
returns c =
    let room : length c.args.lines.now.items ≤ 4096 = omega (arith, c.len.ensures.value, c.len.ensures.fits) in
    let some : c.min-fits.result ≤ 4096 - length c.args.lines.now.items = omega (arith, c.min-fits.ensures, c.len.ensures.value) in
    let fit : length c.args.lines.now.items + length (take c.min-fits.result c.args.bytes.now) ≤ 4096 = omega (arith, length-take c.min-fits.result c.args.bytes.now) in
    subst (λ new. Adds c.args.bytes.now c.args.lines.now.items new)
    (sym (said_of _ (c.try_extend_from_slice.ensures.variant.1 fit) c.try_extend_from_slice.ensures.ok))
    (adds_fit c.args.lines.now.items c.args.bytes.now c.min-fits.result room (c.min-fits.ensures ∙ ap (λ n. min (length c.args.bytes.now) (4096 - n)) c.len.ensures.value))
