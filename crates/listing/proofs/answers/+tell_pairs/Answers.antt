use Rattle.std.proofs.Common.{◌∷◌, ◌∙◌, ap, subst, sym}
use Rattle.listing.specs.Listed.{TellsListed}
use Rattle.listing.proofs.ListedMore.{tells_more, tells_none, tells_odd}
use Rattle.listing.proofs.answers.+tell_pairs.Goals as goal

pub returns-in_default : goal.returns-in_default
returns-in_default t c = tells_none c.args.sheet.now c.args.roots.now c.args.lines.now.items c.in_default.ensures.cases

pub returns-in_default-split_first : goal.returns-in_default-split_first
returns-in_default-split_first t c =
    subst (λ roots. TellsListed c.args.sheet.now roots c.args.sheet.now c.args.lines.now.items c.put_over.new.lines.items) (sym c.in-Some.ensures.cases.0)
    (tells_odd c.args.sheet.now c.in-Some.p.now c.in-Some.rest.now c.args.lines.now.items c.put_over.new.lines.items c.in_default-split_first.ensures.cases c.put_over.ensures)

pub returns : goal.returns
returns t c =
    subst (λ roots. TellsListed c.args.sheet.now roots c.tell_pairs.new.sheet c.args.lines.now.items c.tell_pairs.new.lines.items)
    (sym (c.in-Some.ensures.cases.0 ∙ ap (λ rest. c.in-Some.p.now ∷ rest) c.in-Some-split_first.ensures.cases.0))
    (tells_more c.args.sheet.now c.tell-answer.new.self c.tell_pairs.new.sheet c.in-Some.p.now c.in-Some-split_first.q.now c.in-Some-split_first.rest.now c.args.lines.now.items c.put_tell.new.lines.items c.tell_pairs.new.lines.items c.tell-answer.result c.tell-answer.ensures.told c.tell-answer.ensures.sheet c.put_tell.ensures c.tell_pairs.ensures)
