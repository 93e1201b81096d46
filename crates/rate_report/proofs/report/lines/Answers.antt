use Rattle.std.proofs.Common.{map, vec_items, [], ◌∷◌, rules}
use Rattle.std.proofs.lemmas.List.{map-append}
use Rattle.rate_report.proofs.Listed.{listed_none, listed_push, listed_as}
use Rattle.rate_report.proofs.report.lines.Goals as goal

pub loop-word-init : goal.loop-word-init
loop-word-init c = (tt, tt, search (rules, listed_none c.args.rates.now))

pub loop-word-preserved : goal.loop-word-preserved
loop-word-preserved c =
    let so_far = c.loop-word in
    let word = c.in-Some.word in
    let number = c.number_of-number in
    let more = listed_push c.args.rates.now (map (λ w. w.now) so_far.yielded) (vec_items so_far.out) so_far.counts.words so_far.counts.rates so_far.counts.different so_far.invariant.2 word.now number.result number.ensures in
    (tt, tt, listed_as more (map-append (λ w. w.now) so_far.yielded (word ∷ [])) c.in_ok-add_line.ensures c.add.ensures.words c.add.ensures.rates c.add.ensures.different)
