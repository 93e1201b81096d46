use Rattle.std.proofs.Common.{◌≡◌, ◌<◌, eqb, false, ◌∷◌, take, drop, length, sym, ap, ◌∙◌, subst, ap₂, arith, rules}
use Rattle.std.proofs.lemmas.List.Sums.{prefix_len-le-length}
use Rattle.std.proofs.lemmas.Bool.{eqb-true, eqb-false}
use Rattle.std.specs.List.{prefix_len}
use Rattle.rate_report.specs.Words.{white, words}
use Rattle.rate_report.proofs.Cuts.{solid, words_skip, words_none, words_first}
use Rattle.rate_report.proofs.words.WordsIterator.next.Goals as goal
use Rattle.rate_report.proofs.words.WordsIterator.next.Goals.{After-is_empty}

pub split_at-requires : goal.split_at-requires
split_at-requires c = omega (arith, c.white_length.ensures, prefix_len-le-length white c.args.self.now.rest.now)

pub split_at-requires-2 : goal.split_at-requires-2
split_at-requires-2 c = omega (arith, c.word_length.ensures, prefix_len-le-length solid c.split_at.result.1.now)

-- what is left once the white space in front is passed
begun : (c : After-is_empty) → c.split_at.result.1.now ≡ drop (prefix_len white c.args.self.now.rest.now) c.args.self.now.rest.now
begun c = c.split_at.ensures.back ∙ ap (λ k. drop k c.args.self.now.rest.now) c.white_length.ensures

pub returns-then-is_empty-clause-steps : goal.returns-then-is_empty-clause-steps
returns-then-is_empty-clause-steps c =
    let text = c.args.self.now.rest.now in
    let t = c.split_at.result.1.now in
    let left = begun (goal.at.returns-then-is_empty-clause-steps c).After-is_empty in
    let stop : prefix_len solid t ≡ 0 = omega (arith, c.word_length.ensures, c.split_at-2.ensures.front_len, eqb-true _ 0 (sym c.if-is_empty.ensures)) in
    let none = words_none text (subst (λ t. prefix_len solid t ≡ 0) left stop) in
    let back : c.split_at-2.result.1.now ≡ t = c.split_at-2.ensures.back ∙ ap (λ k. drop k t) (c.word_length.ensures ∙ stop) in
    (none, ap words (back ∙ left) ∙ words_skip text ∙ none)

steps : (c : After-is_empty) → eqb (length c.split_at-2.result.0.now) 0 ≡ false → words c.args.self.now.rest.now ≡ c.split_at-2.result.0.now ∷ words c.split_at-2.result.1.now
steps c found =
    let text = c.args.self.now.rest.now in
    let t = c.split_at.result.1.now in
    let is = c.word_length.ensures in
    let some : 0 < prefix_len solid t = omega (arith, is, c.split_at-2.ensures.front_len, eqb-false _ 0 found) in
    let skipped : words text ≡ words t = sym (words_skip text) ∙ sym (ap words (begun c)) in
    let front = c.split_at-2.ensures.front ∙ ap (λ k. take k t) is in
    let back = c.split_at-2.ensures.back ∙ ap (λ k. drop k t) is in
    skipped ∙ words_first t some ∙ sym (ap₂ (λ w r. w ∷ words r) front back)

pub returns-else-is_empty-clause-steps : goal.returns-else-is_empty-clause-steps
returns-else-is_empty-clause-steps c = steps (goal.at.returns-else-is_empty-clause-steps c).After-is_empty (sym c.if-is_empty.ensures)

pub returns-else-is_empty-clause-goes : goal.returns-else-is_empty-clause-goes
returns-else-is_empty-clause-goes c =
    let step = steps (goal.at.returns-else-is_empty-clause-goes c).After-is_empty (sym c.if-is_empty.ensures) in
    search (rules, ap length step)
