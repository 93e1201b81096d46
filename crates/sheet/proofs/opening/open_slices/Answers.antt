use Rattle.std.proofs.Common.{[], length, nat_eq, subst, sym}
use Rattle.std.specs.List.{range_with_len}
use Rattle.recipe.specs.Tables.{table_of}
use Rattle.closure.specs.OtherLeaves.{SameTables}
use Rattle.nodes.specs.Records.{written}
use Rattle.sheet.specs.Solved.{SlicesHold}
use Rattle.sheet.proofs.Opened.{opened_parts, opened_table}
use Rattle.sheet.proofs.Told.{records_kept}
use Rattle.sheet.proofs.opening.open_slices.Goals as goal

pub open_copy-requires-clause-table : goal.open_copy-requires-clause-table
open_copy-requires-clause-table g c = opened_table c.args.names c.write_table.new.front c.requires.valid c.requires.named c.requires.few (rw c.write_table.auto.front c.requires.room) c.write_table.ensures.copied c.write_table.ensures.holders

pub returns-clause-hold : goal.returns-clause-hold
returns-clause-hold g c =
    let table = opened_table c.args.names c.write_table.new.front c.requires.valid c.requires.named c.requires.few (rw c.write_table.auto.front c.requires.room) c.write_table.ensures.copied c.write_table.ensures.holders in
    subst (λ b. SlicesHold (length c.args.places.now) c.args.names [] c.open_copy.new.front c.open_copy.new.forests b) (sym c.copy_from_slice.ensures.after)
    (opened_parts (length c.args.places.now) c.args.names c.write_table.new.front c.open_copy.new.front c.open_copy.new.forests table c.open_copy.auto.front c.open_copy.ensures.kept c.open_copy.ensures.entered)

pub returns-clause-copied : goal.returns-clause-copied
returns-clause-copied g c =
    let same = records_kept (length c.args.places.now) c.write_table.new.front c.open_copy.new.front (rw c.write_table.auto.front c.requires.room) c.open_copy.auto.front c.open_copy.ensures.kept in
    subst (λ ws. SameTables g.L.Leaf.equates nat_eq (table_of c.args.places.now c.args.leaves.now) (written (length c.args.places.now) ws) c.args.leaves.now (range_with_len 0 (length c.args.leaves.now))) (sym same) c.write_table.ensures.copied
