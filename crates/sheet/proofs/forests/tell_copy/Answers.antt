use Rattle.std.proofs.Common.{◌∙◌, List, [], ◌∷◌, ◌++◌, nat_eq}
use Rattle.recipe.specs.Fillings.{Pair}
use Rattle.recipe.specs.Tells.{Decided}
use Rattle.closure.specs.Decision.{WellFormed}
use Rattle.nodes.specs.Entering.{Entered}
use Rattle.nodes.specs.Records.{written}
use Rattle.sheet.proofs.Exchanged.{entered_joined, exchanged}
use Rattle.sheet.proofs.Ranges.{records_before}
use Rattle.sheet.proofs.forests.tell_copy.Goals as goal

pub tell_pair-requires-clause-ordered : goal.tell_pair-requires-clause-ordered
tell_pair-requires-clause-ordered c =
    rw (c.records_of-words.ensures.records ∙ records_before c.args.size c.marks_start.result _ _ c.marks_start.ensures c.requires.table.room c.split_at_mut-before.ensures.front) c.requires.table.ready.ordered

pub tell_pair-requires-clause-holders : goal.tell_pair-requires-clause-holders
tell_pair-requires-clause-holders c =
    rw (c.records_of-words.ensures.records ∙ records_before c.args.size c.marks_start.result _ _ c.marks_start.ensures c.requires.table.room c.split_at_mut-before.ensures.front) c.requires.table.holders

pub tell_pair-requires-clause-binders : goal.tell_pair-requires-clause-binders
tell_pair-requires-clause-binders c =
    rw (c.records_of-words.ensures.records ∙ records_before c.args.size c.marks_start.result _ _ c.marks_start.ensures c.requires.table.room c.split_at_mut-before.ensures.front) c.requires.table.ready.binders

pub tell_pair-requires-clause-named : goal.tell_pair-requires-clause-named
tell_pair-requires-clause-named c =
    rw (c.records_of-words.ensures.records ∙ records_before c.args.size c.marks_start.result _ _ c.marks_start.ensures c.requires.table.room c.split_at_mut-before.ensures.front) c.requires.table.ready.names

pub tell_pair-requires-clause-holes : goal.tell_pair-requires-clause-holes
tell_pair-requires-clause-holes c =
    rw (c.records_of-words.ensures.records ∙ records_before c.args.size c.marks_start.result _ _ c.marks_start.ensures c.requires.table.room c.split_at_mut-before.ensures.front) c.requires.table.holes

pub tell_pair-requires-clause-entered : goal.tell_pair-requires-clause-entered
tell_pair-requires-clause-entered c =
    rw (c.records_of-words.ensures.records ∙ records_before c.args.size c.marks_start.result _ _ c.marks_start.ensures c.requires.table.room c.split_at_mut-before.ensures.front) (rw c.split_at_mut-rows.ensures.front (rw c.split_at_mut-rows.ensures.back c.requires.entered))

pub returns-clause-decided : goal.returns-clause-decided
returns-clause-decided c =
    let same = c.records_of-words.ensures.records ∙ records_before c.args.size c.marks_start.result _ _ c.marks_start.ensures c.requires.table.room c.split_at_mut-before.ensures.front in
    exchanged (λ words rows names_rows. (told : List Pair) → WellFormed (written c.args.size words) c.args.names (told ++ ((c.args.p, c.args.q) ∷ [])) → Entered (written c.args.size words) c.args.names told rows names_rows → Decided nat_eq (written c.args.size words) (told ++ ((c.args.p, c.args.q) ∷ [])) c.tell_pair.result)
    same c.split_at_mut-rows.ensures.front c.split_at_mut-rows.ensures.back c.tell_pair.ensures.decided

pub returns-clause-entered : goal.returns-clause-entered
returns-clause-entered c told entered ok =
    let same = c.records_of-words.ensures.records ∙ records_before c.args.size c.marks_start.result _ _ c.marks_start.ensures c.requires.table.room c.split_at_mut-before.ensures.front in
    entered_joined c.args.size c.tell_pair.new.rows c.tell_pair.new.names_rows (c.tell_pair.auto.rows ∙ c.split_at_mut-rows.ensures.front_len)
    (exchanged (λ words rows names_rows. Entered (written c.args.size words) c.args.names told rows names_rows → Entered (written c.args.size words) c.args.names (told ++ ((c.args.p, c.args.q) ∷ [])) c.tell_pair.new.rows c.tell_pair.new.names_rows)
    same c.split_at_mut-rows.ensures.front c.split_at_mut-rows.ensures.back (λ before. c.tell_pair.ensures.entered told before ok) entered)
