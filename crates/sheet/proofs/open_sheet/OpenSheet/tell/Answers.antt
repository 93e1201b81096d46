use Rattle.recipe.specs.Tells.{Tells}
use Rattle.std.proofs.Common.{nat_eq, refl, ◌≡◌, ◌+◌, ◌∙◌, length, Ok, Err, ap, rules}
use mathlib.Core.List.{append-nil}
use Rattle.sheet.specs.Views.{pairs_in}
use Rattle.sheet.proofs.Sheets.{filled_in, sheet_more, sound_more, seen_in}
use Rattle.sheet.proofs.Told.{one_longer}
use Rattle.sheet.proofs.open_sheet.OpenSheet.tell.Goals as goal

pub invariant_of-self : goal.invariant_of-self
invariant_of-self c =
    let refused = c.in_err-tell.ensures.solved (pairs_in c.self.inside.standing c.self.inside.memory.now) c.self.invariant.counted c.self.invariant.solved in
    sound_more c.self.invariant c.args.p c.args.q (Err c.in_err-tell.field-0.0) c.self.inside.standing (ap length (append-nil _) ∙ c.self.invariant.counted) refused

pub returns-in_err-tell-clause-told : goal.returns-in_err-tell-clause-told
returns-in_err-tell-clause-told c =
    let at : c.from_residual.result ≡ Err c.in_err-tell.field-0.0 = search rules in
    rw at (seen_in c.self.inside.size c.self.inside.names c.self.inside.leaves c.self.inside.standing c.self.inside.opened c.self.inside.memory.now (λ T ks told. Tells nat_eq T told c.args.p c.args.q (Err c.in_err-tell.field-0.0)) c.self.view_is (c.in_err-tell.ensures.told (pairs_in c.self.inside.standing c.self.inside.memory.now) c.self.invariant.counted c.self.invariant.solved))

pub returns-in_err-tell-clause-sheet : goal.returns-in_err-tell-clause-sheet
returns-in_err-tell-clause-sheet c =
    let at : c.from_residual.result ≡ Err c.in_err-tell.field-0.0 = search rules in
    let refused = c.in_err-tell.ensures.solved (pairs_in c.self.inside.standing c.self.inside.memory.now) c.self.invariant.counted c.self.invariant.solved in
    rw at
    (sheet_more c.self.invariant c.args.p c.args.q (Err c.in_err-tell.field-0.0) c.self.inside.standing (ap length (append-nil _) ∙ c.self.invariant.counted) refused c.self.inside.leaves c.in_err-tell.ensures.records c.in_err-tell.ensures.past c.self.view_is)

pub invariant_of-self-2 : goal.invariant_of-self-2
invariant_of-self-2 c =
    let accepted = c.in_ok-tell.ensures.solved (pairs_in c.self.inside.standing c.self.inside.memory.now) c.self.invariant.counted c.self.invariant.solved in
    sound_more c.self.invariant c.args.p c.args.q (Ok tt) (c.self.inside.standing + 1) (one_longer _ _ ∙ ap (λ n. n + 1) c.self.invariant.counted) accepted

pub returns-clause-told : goal.returns-clause-told
returns-clause-told c = seen_in c.self.inside.size c.self.inside.names c.self.inside.leaves c.self.inside.standing c.self.inside.opened c.self.inside.memory.now (λ T ks told. Tells nat_eq T told c.args.p c.args.q (Ok tt)) c.self.view_is (c.in_ok-tell.ensures.told (pairs_in c.self.inside.standing c.self.inside.memory.now) c.self.invariant.counted c.self.invariant.solved)

pub returns-clause-sheet : goal.returns-clause-sheet
returns-clause-sheet c =
    let accepted = c.in_ok-tell.ensures.solved (pairs_in c.self.inside.standing c.self.inside.memory.now) c.self.invariant.counted c.self.invariant.solved in
    sheet_more c.self.invariant c.args.p c.args.q (Ok tt) (c.self.inside.standing + 1) (one_longer _ _ ∙ ap (λ n. n + 1) c.self.invariant.counted) accepted c.self.inside.leaves c.in_ok-tell.ensures.records c.in_ok-tell.ensures.past c.self.view_is

pub returns-in_err-tell-clause-filled : goal.returns-in_err-tell-clause-filled
returns-in_err-tell-clause-filled c =
    let refused = c.in_err-tell.ensures.solved (pairs_in c.self.inside.standing c.self.inside.memory.now) c.self.invariant.counted c.self.invariant.solved in
    filled_in c.self.inside.size c.self.inside.names c.self.inside.leaves c.self.inside.standing c.self.inside.opened c.tell.new.memory
    (sound_more c.self.invariant c.args.p c.args.q (Err c.in_err-tell.field-0.0) c.self.inside.standing (ap length (append-nil _) ∙ c.self.invariant.counted) refused) refl

pub returns-clause-filled : goal.returns-clause-filled
returns-clause-filled c =
    let accepted = c.in_ok-tell.ensures.solved (pairs_in c.self.inside.standing c.self.inside.memory.now) c.self.invariant.counted c.self.invariant.solved in
    filled_in c.self.inside.size c.self.inside.names c.self.inside.leaves (c.self.inside.standing + 1) c.self.inside.opened c.tell.new.memory
    (sound_more c.self.invariant c.args.p c.args.q (Ok tt) (c.self.inside.standing + 1) (one_longer _ _ ∙ ap (λ n. n + 1) c.self.invariant.counted) accepted) refl
