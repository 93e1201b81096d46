-- The report as a whole: its parts put together, and what the numbers in it tell. Assumes nothing.
use Rattle.std.proofs.Common.{◌≡◌, ℕ, ◌<◌, List, [], ◌++◌, length, get_or, is_some, sym, ap, ◌∙◌, ap₂, subst}
use Rattle.std.proofs.lemmas.List.Elements.{All-get_or}
use Rattle.std.specs.List.{filter_map}
use Rattle.recipe.specs.Numbering.{number_of}
use Rattle.recipe.proofs.Numbers.{number_tells}
use Rattle.leaves.specs.Rates.{same_rate}
use Rattle.leaves.specs.declared.rate.Rate.{Rate}
use Rattle.leaves.specs.CrossProducts.{rate_sameness}
use Rattle.rate_report.specs.Limit.{kept}
use Rattle.rate_report.specs.Entries.{numbers_of, own_numbers}
use Rattle.rate_report.specs.Report.{rates_of, number_in, different, lines, warning, summary, summary_with, report_of, WordsTell}
use Rattle.rate_report.specs.Words.{words}
use Rattle.rate_report.proofs.Listed.{numbers_listed, firsts_numbered, all_numbered, Spelled, words_numbered}

-- the parts of a report, put together, are the report
pub assembled : (limit : ℕ) (input : List ℕ) (rates : List Rate) (n r d : ℕ) → rates ≡ rates_of (words (kept limit input)) → n ≡ length (words (kept limit input)) → r ≡ length rates → d ≡ own_numbers (numbers_of rates (words (kept limit input))) → lines rates 0 (words (kept limit input)) ++ warning limit input ++ summary_with n r d ≡ report_of limit input
unfolding report_of
assembled limit input rates n r d are counted rated apart =
    let ws = words (kept limit input) in
    let numbers = numbers_listed rates ws ∙ sym (ap (filter_map (number_of same_rate rates)) are) in
    let first : d ≡ different rates = apart ∙ ap own_numbers numbers ∙ firsts_numbered rates rates 0 (all_numbered rates) in
    ap₂ (λ m k. lines rates 0 ws ++ warning limit input ++ summary_with m r k) counted first
    ∙ ap (λ k. lines rates 0 ws ++ warning limit input ++ summary_with (length ws) k (different rates)) rated
    ∙ ap (λ rs. lines rs 0 ws ++ warning limit input ++ summary (length ws) rs) are

pub words_tell : (ws : List (List ℕ)) → WordsTell ws
words_tell ws = record {
  rates = known;
  same = λ j k x y hj hk d e.
      let tells = number_tells same_rate rate_sameness (rates_of ws) x y (subst (λ o. is_some (number_in (rates_of ws) o) ≡ is_some o) d (known j hj)) in
      let left = ap (number_in (rates_of ws)) d in
      let right = ap (number_in (rates_of ws)) e in
      (λ one. tells.0 (sym left ∙ one ∙ right), λ same. left ∙ tells.1 same ∙ sym right);
}
  where
    known : (k : ℕ) → k < length ws → Spelled (rates_of ws) (get_or ws k [])
    known k h = All-get_or (Spelled (rates_of ws)) ws k [] h (words_numbered (rates_of ws) ws (all_numbered (rates_of ws)))
