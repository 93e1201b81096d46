use Rattle.std.proofs.Common.{◌∙◌, length, nat_eq, subst, sym, refl, rules}
use Rattle.std.specs.List.{range_with_len}
use Rattle.recipe.specs.Sameness.{Sameness}
use Rattle.recipe.specs.Tables.{table_of}
use Rattle.closure.specs.OtherLeaves.{SameTables}
use Rattle.sheet.proofs.Opened.{empty_same, empty_solved, names_counted, names_few, opened_solved}
use Rattle.sheet.proofs.Solving.{cut_of}
use Rattle.sheet.proofs.Whole.{keeps_past, past_is, table_is}
use Rattle.sheet.proofs.opening.open_memory.Goals as goal

pub returns-then-size-eq0-clause-solved : goal.returns-then-size-eq0-clause-solved
returns-then-size-eq0-clause-solved g c =
    let laws : Sameness g.L.Leaf.equates = record {
      reflexive = g.met.L.Leaf.reflexive;
      symmetric = g.met.L.Leaf.symmetric;
      transitive = g.met.L.Leaf.transitive;
    } in
    empty_solved laws c.requires.valid c.name_count-names.result (names_counted c.args.places.now c.name_count-names.ensures.value) c.args.memory.now c.if-size-eq0.true

pub returns-then-size-eq0-clause-copied : goal.returns-then-size-eq0-clause-copied
returns-then-size-eq0-clause-copied g c =
    let laws : Sameness g.L.Leaf.equates = record {
      reflexive = g.met.L.Leaf.reflexive;
      symmetric = g.met.L.Leaf.symmetric;
      transitive = g.met.L.Leaf.transitive;
    } in
    empty_same laws c.args.places.now c.args.leaves.now c.args.memory.now c.if-size-eq0.true

pub returns-clause-solved : goal.returns-clause-solved
returns-clause-solved g c = opened_solved (length c.args.places.now) c.name_count-names.result (cut_of refl refl refl (c.open_slices.auto.front ∙ c.split_at_mut-front.ensures.front_len ∙ c.forests_start.ensures) (c.open_slices.auto.first ∙ c.split_at_mut-first.ensures.front_len ∙ c.forests_length.ensures) (c.open_slices.auto.second ∙ c.split_at_mut-second.ensures.front_len ∙ c.forests_length-2.ensures)) c.open_slices.ensures.hold

pub returns-clause-copied : goal.returns-clause-copied
returns-clause-copied g c =
    subst (λ T. SameTables g.L.Leaf.equates nat_eq (table_of c.args.places.now c.args.leaves.now) T c.args.leaves.now (range_with_len 0 (length c.args.leaves.now))) (sym (table_is (cut_of refl refl refl (c.open_slices.auto.front ∙ c.split_at_mut-front.ensures.front_len ∙ c.forests_start.ensures) (c.open_slices.auto.first ∙ c.split_at_mut-first.ensures.front_len ∙ c.forests_length.ensures) (c.open_slices.auto.second ∙ c.split_at_mut-second.ensures.front_len ∙ c.forests_length-2.ensures)))) c.open_slices.ensures.copied

pub returns-clause-past : goal.returns-clause-past
returns-clause-past g c = keeps_past (length c.args.places.now) c.name_count-names.result c.args.memory.now _ (search rules) (past_is (cut_of refl refl refl (c.open_slices.auto.front ∙ c.split_at_mut-front.ensures.front_len ∙ c.forests_start.ensures) (c.open_slices.auto.first ∙ c.split_at_mut-first.ensures.front_len ∙ c.forests_length.ensures) (c.open_slices.auto.second ∙ c.split_at_mut-second.ensures.front_len ∙ c.forests_length-2.ensures)) ∙ sym (past_is (cut_of c.split_at_mut-front.ensures.value c.split_at_mut-first.ensures.value c.split_at_mut-second.ensures.value (c.split_at_mut-front.ensures.front_len ∙ c.forests_start.ensures) (c.split_at_mut-first.ensures.front_len ∙ c.forests_length.ensures) (c.split_at_mut-second.ensures.front_len ∙ c.forests_length-2.ensures))))

pub forests_length-requires-clause-few : goal.forests_length-requires-clause-few
forests_length-requires-clause-few g c = rw c.name_count-names.ensures.value (names_few c.requires.valid)

pub forests_length-requires-2-clause-few : goal.forests_length-requires-2-clause-few
forests_length-requires-2-clause-few g c = rw c.name_count-names.ensures.value (names_few c.requires.valid)

pub open_slices-requires-clause-few : goal.open_slices-requires-clause-few
open_slices-requires-clause-few g c = rw c.name_count-names.ensures.value (names_few c.requires.valid)
