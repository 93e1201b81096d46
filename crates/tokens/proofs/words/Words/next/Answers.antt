use Rattle.std.proofs.Common.{◌≡◌, ◌+◌, ◌<◌, length, refl, arith, sym, ap, ◌∙◌}
use Rattle.std.specs.List.{prefix_len}
use Rattle.std.proofs.lemmas.List.{take_rest}
use Rattle.tokens.specs.Words.{is_white}
use Rattle.tokens.specs.Tokens.{front_class, front_size}
use Rattle.tokens.proofs.Steps.{next_start, none_left, next_token}
use Rattle.tokens.proofs.words.Words.next.Goals as goal

pub returns-then-start-text : goal.returns-then-start-text
returns-then-start-text c =
    let a = c.self.inside in
    let start = a.at + c.white_size.result in
    let is : start ≡ next_start a.text.now a.at = ap (λ n. a.at + n) (c.white_size.ensures.size ∙ ap (prefix_len is_white) (take_rest a.text.now a.at)) in
    let none = ap (λ r. r.left) (sym c.self.view_is) ∙ none_left a.text.now a.at start is c.if-start-text.true in
    record { token = none; bounds = tt; end = none; text = refl }

pub returns : goal.returns
returns c =
    let a = c.self.inside in
    let start = a.at + c.white_size.result in
    let is : start ≡ next_start a.text.now a.at = ap (λ n. a.at + n) (c.white_size.ensures.size ∙ ap (prefix_len is_white) (take_rest a.text.now a.at)) in
    let within : start < length a.text.now = omega arith in
    let class = c.front_of-front.ensures.class ∙ ap front_class (take_rest a.text.now start) in
    let size = c.front_of-front.ensures.size ∙ ap front_size (take_rest a.text.now start) in
    let first = next_token a.text.now a.at start c.front_of-front.result.class c.front_of-front.result.size is within class size in
    rw (← c.self.view_is) (record { token = first.left; bounds = (omega (arith, first.some), omega arith); end = tt; text = refl })
