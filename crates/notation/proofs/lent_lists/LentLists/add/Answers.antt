use Rattle.std.proofs.Common.{◌≡◌, ◌<◌, ◌^◌, min, length, slice_set, arith, sym, ap₂, ◌∙◌}
use Rattle.notation.proofs.Written.{overwritten_one}
use Rattle.notation.proofs.lent_lists.LentLists.add.Goals as goal

pub returns-clause-added : goal.returns-clause-added
returns-clause-added c = λ most used stands.
    let t = c.in_ok-place.ensures.taken most used stands in
    let table = c.args.self.now.places.now in
    let here : most.places ≡ min (length table) (2 ^ 32) = stands.place_room in
    let fits = t.fits in
    let inside : used.places < length table = omega arith in
    record {
      number_is = t.number_is;
      fits = fits;
      written =
          c.write.ensures.written
          ∙ ap₂ (λ q n. slice_set q n c.args.value) t.kept t.number_is
          ∙ sym (overwritten_one used.places c.args.value table inside);
      stands = c.write.ensures.stands most _ t.stands;
    }
