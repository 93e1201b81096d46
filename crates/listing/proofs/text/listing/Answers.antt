use Rattle.std.proofs.Common.{◌≡◌, ◌≤◌, ◌++◌, ◌∙◌, [], ap, arith, length, subst, sym, take}
use Rattle.std.proofs.lemmas.List.{drop-replicate, take_all}
use Rattle.listing.specs.Lines.{Adds}
use Rattle.listing.proofs.text.listing.Goals as goal

pub returns-clause-listing : goal.returns-clause-listing
returns-clause-listing g c =
    let room : length c.list.new.lines.items ≤ 4096 = omega (arith, c.len-written.ensures.value, c.len-written.ensures.fits) in
    let added : Adds c.list.ensures.bytes [] c.list.new.lines.items = subst (λ old. Adds c.list.ensures.bytes old c.list.new.lines.items) c.new-lines.ensures c.list.ensures.added in
    let items : c.list.new.lines.items ≡ take 4096 c.list.ensures.bytes = sym (take_all 4096 c.list.new.lines.items room) ∙ added.cut in
    record {
      lines = c.list.ensures.bytes;
      lists = c.list.ensures.lists;
      written =
          ap (λ front. front ++ c.split_at_mut-front.result.1.now) (c.copy_from_slice.ensures.after ∙ c.deref.ensures.0 ∙ items)
          ∙ ap (λ rest. take 4096 c.list.ensures.bytes ++ rest) (c.split_at_mut-front.ensures.back ∙ drop-replicate c.len-written.result 4096 0);
      counted = c.len-written.ensures.value ∙ ap length items;
    }
