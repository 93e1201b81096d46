use Rattle.std.proofs.Common.{◌∙◌, length, ap}
use Rattle.std.proofs.lemmas.Result.{err_from_is_err_and}
use Rattle.tokens.specs.Pieces.{token_of}
use Rattle.notation.specs.Tables.{row}
use Rattle.notation.proofs.OneToken.{name_full, name_answers}
use Rattle.notation.proofs.atoms.name.Goals as goal

pub returns-in_err-number-clause-taken : goal.returns-in_err-number-clause-taken
returns-in_err-number-clause-taken c = λ d s most used deep stands short.
    let p = err_from_is_err_and c.from_residual.result c.from_residual.ensures.1 in
    let full = c.in_err-number.ensures.named most used stands (short.0.name c.requires.class) in
    rw (p.1, p.2, full.1) (name_full most (length c.args.text.now) d used (token_of c.args.text.now c.args.first) s c.requires.class full.0)

pub returns-clause-taken : goal.returns-clause-taken
returns-clause-taken c = λ d s most used deep stands short.
    let k = token_of c.args.text.now c.args.first in
    let entry = c.in_ok-number.ensures.named most used stands (short.0.name c.requires.class) in
    name_answers
    most
    (length c.args.text.now)
    d
    used
    k
    s
    deep
    short.1
    c.args.lists.now.places.now
    _
    entry.kept
    c.add.new.self
    c.record_of.result
    c.requires.class
    (c.record_of.ensures ∙ ap (λ n. row 2 n 0) entry.number_is)
    c.add.result
    (c.add.ensures.added most _ entry.stands)
