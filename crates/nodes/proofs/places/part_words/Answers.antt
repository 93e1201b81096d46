use Rattle.std.proofs.Common.{◌≡◌, ◌*◌, slice_index, sym, arith}
use Rattle.nodes.proofs.PlaceParts.{written_inside, written_left, written_right}
use Rattle.nodes.proofs.places.part_words.Goals as goal

pub overflow_add-result-in-Ok-Bind : goal.overflow_add-result-in-Ok-Bind
overflow_add-result-in-Ok-Bind c =
    let kind : slice_index c.args.words.now (8 * c.args.p) ≡ 4 = sym (rw c.in-Ok-Bind.field-0-is at c.in-Ok-Bind.ensures) in
    let few = c.requires.few 2 _ (written_inside c.args.words.now c.args.p kind) in omega arith

pub overflow_add-result-in-Ok-Call-2 : goal.overflow_add-result-in-Ok-Call-2
overflow_add-result-in-Ok-Call-2 c =
    let kind : slice_index c.args.words.now (8 * c.args.p) ≡ 5 = sym (rw c.in-Ok-Call.field-0-is at c.in-Ok-Call.ensures) in
    let few = c.requires.few 0 _ (written_left c.args.words.now c.args.p kind) in omega arith

pub overflow_add-result-in-Ok-Call-4 : goal.overflow_add-result-in-Ok-Call-4
overflow_add-result-in-Ok-Call-4 c =
    let kind : slice_index c.args.words.now (8 * c.args.p) ≡ 5 = sym (rw c.in-Ok-Call.field-0-is at c.in-Ok-Call.ensures) in
    let few = c.requires.few 1 _ (written_right c.args.words.now c.args.p kind) in omega arith
