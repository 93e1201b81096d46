use Rattle.std.proofs.Common.{◌∙◌, ap, subst}
use Rattle.std.specs.List.{take_while}
use Rattle.recipe.specs.Packing.{is_filled, unpacked}
use Rattle.listing.specs.Lines.{Adds}
use Rattle.listing.proofs.lines.put_spelling.Goals as goal

pub returns : goal.returns
unfolding unpacked
returns c = subst (λ bytes. Adds bytes c.args.lines.now.items c.put.new.lines.items) (c.before_zero.ensures ∙ ap (take_while is_filled) c.to_be_bytes.ensures) c.put.ensures
