use Rattle.std.proofs.Common.{map, vec_items}
use Rattle.rate_report.proofs.Listed.{Listed}
use Rattle.rate_report.proofs.report.lines.Given as goal

-- the words so far are listed
abbrev pub invariant-loop-word : goal.invariant-loop-word
invariant-loop-word l =
    (goal.iterator-loop-word).can_next l.word-iterator ×
    (goal.iterator-loop-word).is_finite l.word-iterator ×
    Listed l.rates (map (λ w. w.now) l.yielded) (vec_items l.out) l.counts.words l.counts.rates l.counts.different
