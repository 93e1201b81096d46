use Rattle.std.proofs.Common.{◌∷◌, ◌∙◌, length, ap, sym}
use Rattle.std.proofs.lemmas.Result.{err_from_is_err_and}
use Rattle.tokens.specs.Pieces.{token_of}
use Rattle.notation.proofs.Turning.{stands_within}
use Rattle.notation.proofs.Shorts.{name_short, rest_short}
use Rattle.notation.proofs.Texts.{piece_of, unexpected_of}
use Rattle.notation.proofs.Binders.{refuse_opening, refuse_name, refuse_full, refuse_shut, turn_binder}
use Rattle.notation.proofs.recipes.binder.Goals as goal

pub returns-in_err-expect-clause-taken : goal.returns-in_err-expect-clause-taken
returns-in_err-expect-clause-taken c = λ most used d deep stands short.
    let p = err_from_is_err_and c.from_residual.result c.from_residual.ensures.1 in
    rw (p.1, p.2) (refuse_opening most (length c.args.words.now.text) d used (stands_within most d used _ stands deep) c.in_err-expect.ensures.taken)

pub returns-in_err-name-clause-taken : goal.returns-in_err-name-clause-taken
returns-in_err-name-clause-taken c = λ most used d deep stands short.
    let p = err_from_is_err_and c.from_residual-in_err-name.result c.from_residual-in_err-name.ensures.1 in
    let o = token_of c.args.words.now.text c.in_ok-expect.field-0 in
    let fits = stands_within most d used _ stands deep in
    rw (p.1, p.2, c.in_ok-expect.ensures.taken.took.left) (refuse_name most (length c.args.words.now.text) d used fits o c.in_ok-expect.ensures.taken.class_is (unexpected_of c.in_ok-expect.ensures.text c.in_err-name.ensures.taken))

pub returns-in_err-number-clause-taken : goal.returns-in_err-number-clause-taken
returns-in_err-number-clause-taken c = λ most used d deep stands short.
    let p = err_from_is_err_and c.from_residual-in_err-number.result c.from_residual-in_err-number.ensures.1 in
    let o = token_of c.args.words.now.text c.in_ok-expect.field-0 in
    let k = token_of c.text.result.now c.in_ok-name.name in
    let first = c.in_ok-expect.ensures.taken in
    let second = c.in_ok-name.ensures.taken in
    let took = piece_of (sym (c.text.ensures ∙ c.in_ok-name.ensures.text)) second.took in
    let fits = stands_within most d used _ stands deep in
    let spelling = name_short took.left (rest_short first.took.left short) second.class_is in
    let full = c.in_err-number.ensures.named most used stands spelling in
    rw (p.1, p.2, full.1, first.took.left, took.left)
    (refuse_full most (length c.args.words.now.text) d used fits o first.class_is k second.class_is _ full.0)

pub returns-in_err-expect-2-clause-taken : goal.returns-in_err-expect-2-clause-taken
returns-in_err-expect-2-clause-taken c = λ most used d deep stands short.
    let p = err_from_is_err_and c.from_residual-in_err-expect-2.result c.from_residual-in_err-expect-2.ensures.1 in
    let o = token_of c.args.words.now.text c.in_ok-expect.field-0 in
    let k = token_of c.text.result.now c.in_ok-name.name in
    let first = c.in_ok-expect.ensures.taken in
    let second = c.in_ok-name.ensures.taken in
    let took = piece_of (sym (c.text.ensures ∙ c.in_ok-name.ensures.text)) second.took in
    let fits = stands_within most d used _ stands deep in
    let spelling = name_short took.left (rest_short first.took.left short) second.class_is in
    let entry = c.in_ok-number.ensures.named most used stands spelling in
    let fits_name = stands_within most d _ _ entry.stands deep in
    rw (p.1, p.2, first.took.left, took.left)
    (refuse_shut most (length c.args.words.now.text) d used fits o first.class_is k second.class_is fits_name (unexpected_of (c.in_ok-name.ensures.text ∙ c.in_ok-expect.ensures.text) c.in_err-expect-2.ensures.taken))

pub returns-clause-taken : goal.returns-clause-taken
returns-clause-taken c = λ most used d deep stands short.
    let o = token_of c.args.words.now.text c.in_ok-expect.field-0 in
    let k = token_of c.text.result.now c.in_ok-name.name in
    let e = token_of c.expect-2.new.words.text c.in_ok-expect-2.field-0 in
    let first = c.in_ok-expect.ensures.taken in
    let second = c.in_ok-name.ensures.taken in
    let took = piece_of (sym (c.text.ensures ∙ c.in_ok-name.ensures.text)) second.took in
    let third = c.in_ok-expect-2.ensures.taken in
    let fits = stands_within most d used _ stands deep in
    let spelling = name_short took.left (rest_short first.took.left short) second.class_is in
    let entry = c.in_ok-number.ensures.named most used stands spelling in
    let fits_name = stands_within most d _ _ entry.stands deep in
    record {
      opening = o;
      name = k;
      shut = e;
      left = first.took.left ∙ ap (λ s. o ∷ s) (took.left ∙ ap (λ s. k ∷ s) third.took.left);
      opens = first.class_is;
      names = second.class_is;
      shuts = third.class_is;
      number_is = entry.number_is;
      turns = rw (first.took.left, took.left, third.took.left) (turn_binder most (length c.args.words.now.text) d used fits o first.class_is k second.class_is fits_name e third.class_is _);
      kept = entry.kept;
      stands = entry.stands;
      short = rest_short third.took.left (rest_short took.left (rest_short first.took.left short));
    }
