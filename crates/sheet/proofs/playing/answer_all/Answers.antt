use Rattle.std.proofs.Common.{◌≡◌, ◌∙◌, [], ◌∷◌, map, ap, refl, subst}
use Rattle.std.proofs.lemmas.List.{with_items_is}
use Rattle.std.specs.Vec.{with_items}
use Rattle.recipe.specs.Histories.{Entry, Request, request}
use Rattle.sheet.specs.Calls.{entry_of, look_entry}
use Rattle.sheet.specs.Playing.{AllRightOn}
use Rattle.sheet.proofs.RightPlay.{asked_all, right_sealed, right_unsealed}
use Rattle.sheet.proofs.playing.answer_all.Goals as goal

pub returns-in-Some-clause-asked : goal.returns-in-Some-clause-asked
returns-in-Some-clause-asked c =
    let called : (with_items c.args.calls.now.calls c.answer_calls.new.calls).items ≡ c.answer_calls.new.calls = with_items_is c.args.calls.now.calls c.answer_calls.new.calls (c.answer_calls.auto.calls ∙ c.deref_mut.ensures.len) in
    let looked : (with_items c.in-Some.looks c.answer_looks.new.looks).items ≡ c.answer_looks.new.looks = with_items_is c.in-Some.looks c.answer_looks.new.looks (c.answer_looks.auto.looks ∙ c.deref_mut-in-Some.ensures.len) in
    rw (called, looked, c.in-Some.is)
    (asked_all (map entry_of c.answer_calls.new.calls) (map entry_of c.args.calls.now.calls.items) (Entry.seal ∷ map look_entry c.answer_looks.new.looks) (Entry.seal ∷ map look_entry c.in-Some.looks.items)
    (c.answer_calls.ensures.asked ∙ ap (λ calls. map request (map entry_of calls)) c.deref_mut.ensures.value)
    (ap (λ rs. Request.seal ∷ rs) (c.answer_looks.ensures.asked ∙ ap (λ looks. map request (map look_entry looks)) c.deref_mut-in-Some.ensures.value)))

pub returns-in-Some-clause-right : goal.returns-in-Some-clause-right
returns-in-Some-clause-right c =
    let called : (with_items c.args.calls.now.calls c.answer_calls.new.calls).items ≡ c.answer_calls.new.calls = with_items_is c.args.calls.now.calls c.answer_calls.new.calls (c.answer_calls.auto.calls ∙ c.deref_mut.ensures.len) in
    let looked : (with_items c.in-Some.looks c.answer_looks.new.looks).items ≡ c.answer_looks.new.looks = with_items_is c.in-Some.looks c.answer_looks.new.looks (c.answer_looks.auto.looks ∙ c.deref_mut-in-Some.ensures.len) in
    rw (called, looked)
    (right_sealed c.args.sheet (map entry_of c.answer_calls.new.calls) c.answer_looks.new.looks c.answer_calls.ensures.right
    (subst (λ s. AllRightOn s (map look_entry c.answer_looks.new.looks)) (c.seal-sheet.ensures ∙ c.answer_calls.ensures.sheet) c.answer_looks.ensures.right))

pub returns-in_default-clause-asked : goal.returns-in_default-clause-asked
returns-in_default-clause-asked c =
    let called : (with_items c.args.calls.now.calls c.answer_calls.new.calls).items ≡ c.answer_calls.new.calls = with_items_is c.args.calls.now.calls c.answer_calls.new.calls (c.answer_calls.auto.calls ∙ c.deref_mut.ensures.len) in
    rw (called, c.in_default.is)
    (asked_all (map entry_of c.answer_calls.new.calls) (map entry_of c.args.calls.now.calls.items) [] [] (c.answer_calls.ensures.asked ∙ ap (λ calls. map request (map entry_of calls)) c.deref_mut.ensures.value) refl)

pub returns-in_default-clause-right : goal.returns-in_default-clause-right
returns-in_default-clause-right c =
    let called : (with_items c.args.calls.now.calls c.answer_calls.new.calls).items ≡ c.answer_calls.new.calls = with_items_is c.args.calls.now.calls c.answer_calls.new.calls (c.answer_calls.auto.calls ∙ c.deref_mut.ensures.len) in
    rw (called, c.in_default.is) (right_unsealed c.args.sheet (map entry_of c.answer_calls.new.calls) c.answer_calls.ensures.right)
