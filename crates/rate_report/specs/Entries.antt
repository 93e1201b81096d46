-- What is counted of words that are listed with their numbers. Assumes nothing. (docs/RULES.md, "Reports on rates")
use Rattle.std.specs.Prelude.{ℕ, List, count_by, ◌==◌}
use Rattle.std.specs.List.{filter_map, enumerate_from}
use Rattle.leaves.specs.RateReading.{rate_of}
use Rattle.leaves.specs.declared.rate.Rate.{Rate}
use Rattle.rate_report.specs.Report.{number_in}

-- the numbers that the rates of words have among some rates, in order
abbrev pub numbers_of : List Rate → List (List ℕ) → List ℕ
numbers_of rates = filter_map (λ w. number_in rates (rate_of w))

-- how many of the numbers are their own indices
abbrev pub own_numbers : List ℕ → ℕ
own_numbers ns = count_by (λ p. p.1 == p.0) (enumerate_from 0 ns)
