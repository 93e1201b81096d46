use Rattle.std.proofs.Common.{◌≡◌, ◌++◌, refl, ◌∙◌, ap₂, rules}
use Rattle.leaves.specs.RateReading.{rate_of}
use Rattle.leaves.specs.RatesLemmas.{spelled_by}
use Rattle.rate_report.specs.Limit.{kept}
use Rattle.rate_report.specs.Report.{lines}
use Rattle.rate_report.specs.Words.{words}
use Rattle.rate_report.proofs.Prefixes.{keeps, first_words}
use Rattle.rate_report.proofs.Whole.{assembled, words_tell}
use Rattle.rate_report.proofs.report.report_on.Goals as goal

pub returns : goal.returns
returns c =
    let input = c.args.input.now in
    let front = keeps 65536 input in
    let ws = words (kept 65536 input) in
    let rates = c.in_ok-rates.rates.items in
    let listed : c.in_ok-out.field-0.lines.items ≡ lines rates 0 ws = search rules in
    let warned = c.in_ok-extend_from_slice.ensures.items ∙ ap₂ (λ x y. x ++ y) listed (c.as_bytes.ensures.value ∙ c.in_ok-warning.ensures) in
    let summed = c.in_ok-extend_from_slice-2.ensures.items ∙ ap₂ (λ x y. x ++ y) warned (c.as_bytes-2.ensures.value ∙ c.in_ok-summary.ensures) in
    record {
      bytes = summed ∙ assembled 65536 input rates c.in_ok-out.field-0.counts.words c.len.result c.in_ok-out.field-0.counts.different (search rules) (search rules) (search rules) (search rules);
      front = front;
      first = first_words 65536 input (kept 65536 input) front;
      spelled = λ word. spelled_by word (rate_of word) refl;
      tell = words_tell ws;
    }
