use Rattle.std.proofs.Common.{◌∙◌, length, nat_eq, subst, sym}
use Rattle.std.specs.List.{range_with_len}
use Rattle.recipe.specs.Tables.{table_of}
use Rattle.closure.specs.OtherLeaves.{SameTables}
use Rattle.nodes.specs.HoldersWritten.{HoldersWritten}
use Rattle.nodes.specs.Records.{written}
use Rattle.sheet.proofs.Ranges.{records_at}
use Rattle.sheet.proofs.opening.write_table.Goals as goal

pub returns-clause-copied : goal.returns-clause-copied
returns-clause-copied g c =
    let at = records_at (length c.args.places.now) c.split_at_mut-rest.result.0.now c.write_holders.new.words c.split_at_mut-words.result.1.now c.split_at_mut-rest.ensures.front_len (c.write_holders.auto.words ∙ c.write_records.auto.words ∙ c.split_at_mut-words.ensures.front_len) in
    subst (λ ws. SameTables g.L.Leaf.equates nat_eq (table_of c.args.places.now c.args.leaves.now) (written (length c.args.places.now) ws) c.args.leaves.now (range_with_len 0 (length c.args.leaves.now))) (sym at)
    (subst (λ T. SameTables g.L.Leaf.equates nat_eq (table_of c.args.places.now c.args.leaves.now) T c.args.leaves.now (range_with_len 0 (length c.args.leaves.now))) (sym c.write_holders.ensures.same) c.write_records.ensures.same)

pub returns-clause-holders : goal.returns-clause-holders
returns-clause-holders g c =
    let at = records_at (length c.args.places.now) c.split_at_mut-rest.result.0.now c.write_holders.new.words c.split_at_mut-words.result.1.now c.split_at_mut-rest.ensures.front_len (c.write_holders.auto.words ∙ c.write_records.auto.words ∙ c.split_at_mut-words.ensures.front_len) in
    subst (HoldersWritten (length c.args.places.now)) (sym at) c.write_holders.ensures.holders
