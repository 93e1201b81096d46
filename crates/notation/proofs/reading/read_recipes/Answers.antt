use Rattle.std.proofs.Common.{◌∙◌, length, replicate, refl, ap, subst}
use Rattle.tokens.specs.Tokens.{tokens}
use Rattle.notation.specs.Answering.{Readable}
use Rattle.notation.specs.Reading.{Lists, room}
use Rattle.notation.specs.Tables.{row}
use Rattle.notation.specs.Verdict.{Refused}
use Rattle.notation.proofs.Answered.{same_room, leaves_fit, accepted, refused_text}
use Rattle.notation.proofs.reading.read_recipes.Goals as goal

pub returns-in-Ok : goal.returns-in-Ok
returns-in-Ok g c =
    let reads = g.L.Leaf.spells in
    let size = length c.args.text.now in
    let s = tokens c.args.text.now in
    let old : Lists g.row.L.Denot = record { places = c.args.places.now; names = c.args.names.now; holes = c.args.holes.now; leaves = c.args.leaves.now } in
    let new : Lists g.row.L.Denot = record { places = c.read_tables.new.places; names = c.read_tables.new.names; holes = c.read_tables.new.holes; leaves = c.write_leaves.new.leaves } in
    let most = same_room _ _ _ _ (length old.places) (length old.names) (length old.holes) (room (length old.leaves)) refl refl refl c.room.ensures in
    let r = subst (λ m. Readable reads m s new.places new.names new.holes c.in-Ok.counts) most c.in-Ok.ensures in
    let few = leaves_fit reads size s old new new.places new.names new.holes c.in-Ok.counts r in
    accepted
    reads
    size
    s
    old
    new
    c.in-Ok.counts
    r
    c.read_tables.auto.places
    c.read_tables.auto.names
    c.read_tables.auto.holes
    (c.write_leaves.ensures r.read.leaves r.read.reads_as few)

pub returns-in-Err : goal.returns-in-Err
returns-in-Err g c =
    let reads = g.L.Leaf.spells in
    let size = length c.args.text.now in
    let s = tokens c.args.text.now in
    let old : Lists g.row.L.Denot = record { places = c.args.places.now; names = c.args.names.now; holes = c.args.holes.now; leaves = c.args.leaves.now } in
    let most = same_room _ _ _ _ (length old.places) (length old.names) (length old.holes) (room (length old.leaves)) refl refl refl c.room.ensures in
    let refused = subst (λ m. Refused m size reads s c.in-Err.why) most c.in-Err.ensures in
    refused_text
    reads
    size
    s
    old
    _
    c.in-Err.why
    refused
    (c.clear.ensures.places ∙ ap (λ n. replicate n (row 0 0 0)) c.read_tables.auto.places)
    (c.clear.ensures.names ∙ ap (λ n. replicate n 0) c.read_tables.auto.names)
    (c.clear.ensures.holes ∙ ap (λ n. replicate n 0) c.read_tables.auto.holes)
    refl
