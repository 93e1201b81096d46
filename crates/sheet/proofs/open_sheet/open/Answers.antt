use Rattle.recipe.specs.Sameness.{Sameness}
use Rattle.std.proofs.Common.{length, refl, sym}
use Rattle.sheet.proofs.SheetOpened.{empty_like, is_opened, none_told, opened_beyond, opened_forms, opened_like, sound_empty, sound_opened}
use Rattle.sheet.proofs.open_sheet.open.Goals as goal

pub invariant_of-result : goal.invariant_of-result
invariant_of-result g c = sound_empty c.in-Err.refusal c.open_checked.new.memory

pub returns-in-Err-clause-table : goal.returns-in-Err-clause-table
returns-in-Err-clause-table g c = empty_like g.L.Leaf.equates c.args.places.now c.args.leaves.now (length c.args.memory.now) (length c.args.leaves.now) c.in-Err.refusal c.open_checked.new.memory _ c.in-Err.ensures.opened.0

pub returns-in-Err-clause-told : goal.returns-in-Err-clause-told
returns-in-Err-clause-told g c = none_told c.open_checked.new.memory

pub invariant_of-result-2 : goal.invariant_of-result-2
invariant_of-result-2 g c = sound_opened (length c.args.places.now) c.in-Ok.names c.open_checked.new.memory c.in-Ok.ensures.opened.solved

pub returns-clause-opened : goal.returns-clause-opened
returns-clause-opened g c = sym (is_opened c.in-Ok.ensures.opened)

pub returns-clause-table : goal.returns-clause-table
returns-clause-table g c = opened_like c.in-Ok.ensures.opened (length c.args.leaves.now) refl

pub returns-clause-told : goal.returns-clause-told
returns-clause-told g c = none_told c.open_checked.new.memory

pub returns-clause-beyond : goal.returns-clause-beyond
returns-clause-beyond g c = opened_beyond c.in-Ok.ensures.opened

pub returns-clause-forms : goal.returns-clause-forms
returns-clause-forms g c =
    let laws : Sameness g.L.Leaf.equates = record {
      reflexive = g.met.L.Leaf.reflexive;
      symmetric = g.met.L.Leaf.symmetric;
      transitive = g.met.L.Leaf.transitive;
    } in
    opened_forms c.in-Ok.ensures.opened laws
