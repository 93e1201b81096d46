use Rattle.std.proofs.Common.{◌≡◌, ◌*◌, slice_index, sym}
use Rattle.nodes.proofs.PlaceParts.{written_inside, written_left, written_right}
use Rattle.nodes.proofs.names.name_words.Goals as goal

pub name_word-requires-clause-low : goal.name_word-requires-clause-low
name_word-requires-clause-low c =
    let kind : slice_index c.args.words.now (8 * c.args.p) ≡ 4 = sym (rw c.in-Ok-Bind.field-0-is at c.in-Ok-Bind.ensures) in
    c.requires.few_parts 2 _ (written_inside c.args.words.now c.args.p kind)

pub name_word-requires-in-Ok-Call-clause-low : goal.name_word-requires-in-Ok-Call-clause-low
name_word-requires-in-Ok-Call-clause-low c =
    let kind : slice_index c.args.words.now (8 * c.args.p) ≡ 5 = sym (rw c.in-Ok-Call.field-0-is at c.in-Ok-Call.ensures) in
    c.requires.few_parts 0 _ (written_left c.args.words.now c.args.p kind)

pub name_word-requires-in-Ok-Call-2-clause-low : goal.name_word-requires-in-Ok-Call-2-clause-low
name_word-requires-in-Ok-Call-2-clause-low c =
    let kind : slice_index c.args.words.now (8 * c.args.p) ≡ 5 = sym (rw c.in-Ok-Call.field-0-is at c.in-Ok-Call.ensures) in
    c.requires.few_parts 1 _ (written_right c.args.words.now c.args.p kind)
