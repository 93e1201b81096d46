use Rattle.std.proofs.Common.{◌≡◌, IfOk, rules, tests, subst}
use Rattle.std.proofs.lemmas.Iterator.{items_from_collect}
use Rattle.std.proofs.lemmas.Iterator.Consumers.{YieldsList-from_first, YieldsList-from_filter_map, YieldsList-at}
use Rattle.leaves.specs.RateReading.{rate_of}
use Rattle.rate_report.specs.Words.{words}
use Rattle.rate_report.proofs.Listed.{rates_read}
use Rattle.rate_report.proofs.report.rates_of.Goals as goal

pub returns : goal.returns
returns c =
    let ws = words c.args.text.now in
    subst (λ rates. IfOk c.collect.result (λ v. v.items ≡ rates)) (rates_read ws) (items_from_collect _ c.collect.ensures.ran (YieldsList-from_filter_map _ rate_of (YieldsList-at c.filter_map.ensures.source (YieldsList-from_first (λ w. w.now) (λ s. words s.rest.now) ws (search rules))) c.filter_map.ensures.closure (λ x r q k. search (rules, tests))))
