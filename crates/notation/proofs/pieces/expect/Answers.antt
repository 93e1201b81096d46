use Rattle.std.proofs.lemmas.Result.{err_from_is_err_and}
use Rattle.notation.proofs.Classes.{different_class}
use Rattle.notation.specs.Taking.{Unexpected}
use Rattle.notation.proofs.pieces.expect.Goals as goal

pub returns-in_err-piece-clause-taken : goal.returns-in_err-piece-clause-taken
returns-in_err-piece-clause-taken c =
    let p = err_from_is_err_and c.from_residual.result c.from_residual.ensures.1 in
    rw (p.1, p.2) (rw (c.in_err-piece.ensures.taken.0, c.in_err-piece.ensures.taken.1) Unexpected.ends)

pub returns-then-ne-clause-taken : goal.returns-then-ne-clause-taken
returns-then-ne-clause-taken c =
    rw (c.wrong.ensures, c.in_ok-piece.ensures.taken.left) (Unexpected.other (different_class c.in_ok-piece.piece.class c.args.class c.if-ne.ensures))
