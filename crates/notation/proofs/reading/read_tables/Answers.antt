use Rattle.std.proofs.Common.{length}
use Rattle.std.proofs.lemmas.Result.{err_from_is_err_and}
use Rattle.tokens.specs.Tokens.{tokens}
use Rattle.notation.specs.Progress.{room_for}
use Rattle.notation.proofs.Answered.{halted_refused, unread_refused}
use Rattle.notation.proofs.reading.read_tables.Goals as goal

pub returns-in_err-counts : goal.returns-in_err-counts
returns-in_err-counts g c =
    let p = err_from_is_err_and c.from_residual.result c.from_residual.ensures.1 in
    let most = room_for (length c.args.places.now) (length c.args.names.now) (length c.args.holes.now) c.args.leaf_room in
    rw (p.1, p.2) (halted_refused g.L.Leaf.spells most (length c.args.text.now) (tokens c.args.text.now) _ c.in_err-counts.ensures)

pub returns-in-Some : goal.returns-in-Some
returns-in-Some g c =
    let most = room_for (length c.args.places.now) (length c.args.names.now) (length c.args.holes.now) c.args.leaf_room in
    unread_refused g.L.Leaf.spells most (length c.args.text.now) (tokens c.args.text.now) c.fill_tables.new.places c.fill_tables.new.names c.fill_tables.new.holes c.in_ok-counts.counts c.in-Some.offset c.in_ok-counts.ensures c.in-Some.ensures
