use Rattle.std.proofs.Common.{◌≡◌, ◌++◌, drop, vec_items}
use Rattle.read_report.specs.Lent.{lists_of}
use Rattle.read_report.specs.Report.{lines_of}
use Rattle.read_report.proofs.lines.Lent.lines.Given as goal

-- the lines so far, and those of the places that are left
abbrev pub invariant-loop-number : goal.invariant-loop-number
invariant-loop-number l =
    vec_items l.out ++ lines_of (lists_of l.self) l.number (drop l.number l.places) ≡ lines_of (lists_of l.self) 0 l.places
