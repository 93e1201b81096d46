use Rattle.std.proofs.Common.{◌≡◌, ◌++◌, ◌∙◌, ap, drop, length, min, subst, take}
use Rattle.std.proofs.lemmas.List.{drop_min, take_min}
use Rattle.std.proofs.Math.Nat.{min_comm}
use Rattle.listing.specs.Lists.{ListsText, Read}
use Rattle.listing.proofs.text.list.Goals as goal

pub returns : goal.returns
returns g c =
    let most : c.min.result ≡ min 64 (length c.args.leaves.now) = c.min.ensures ∙ min_comm (length c.args.leaves.now) 64 in
    let front : c.split_at_mut-first.result.0.now ≡ take 64 c.args.leaves.now = c.split_at_mut-first.ensures.front ∙ ap (λ n. take n c.args.leaves.now) most ∙ take_min 64 c.args.leaves.now in
    let back : c.split_at_mut-first.result.1.now ≡ drop 64 c.args.leaves.now = c.split_at_mut-first.ensures.back ∙ ap (λ n. drop n c.args.leaves.now) most ∙ drop_min 64 c.args.leaves.now in
    record {
      bytes = c.list_text.ensures.bytes;
      lists = ListsText.read {first = c.list_text.new.leaves} c.if-text-gt-SIZE.false (subst (λ leaves. Read g.L.Leaf.spells g.L.Leaf.equates c.args.text.now leaves c.list_text.new.leaves c.list_text.ensures.bytes) front c.list_text.ensures.read) (ap (λ rest. c.list_text.new.leaves ++ rest) back);
      added = c.list_text.ensures.added;
    }
