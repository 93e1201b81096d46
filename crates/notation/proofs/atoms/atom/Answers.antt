use Rattle.std.proofs.Common.{length, refl, subst, sym, ◌∷◌, []}
use Rattle.tokens.specs.Pieces.{token_of}
use Rattle.notation.specs.Machine.{Awaited, Stops}
use Rattle.notation.proofs.OneToken.{atom_wrong, nil_answers}
use Rattle.notation.proofs.atoms.atom.Goals as goal

pub returns-in-Nil-clause-taken : goal.returns-in-Nil-clause-taken
returns-in-Nil-clause-taken c = λ d s most used deep stands short.
    let k = token_of c.args.text.now c.args.first in
    nil_answers
    most
    (length c.args.text.now)
    d
    used
    k
    s
    deep
    short.1
    c.args.lists.now.places.now
    c.args.lists.now.places.now
    refl
    c.add.new.self
    c.record_of.result
    c.in-Nil.is
    c.record_of.ensures
    c.add.result
    (c.add.ensures.added most used stands)

pub returns-in_default-clause-taken : goal.returns-in_default-clause-taken
returns-in_default-clause-taken c = λ d s most used deep stands short.
    subst
    (λ why. Stops most (length c.args.text.now) (Awaited.recipe ∷ []) d used (token_of c.args.text.now c.args.first ∷ s) why)
    (sym c.wrong.ensures)
    (atom_wrong most (length c.args.text.now) d used (token_of c.args.text.now c.args.first) s c.requires.class c.in_default.not-Nil c.in_default.not-Leaf c.in_default.not-Name c.in_default.not-Hole)
