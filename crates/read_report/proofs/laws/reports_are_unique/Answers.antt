use Rattle.std.proofs.Common.{length, sym, ap₂, ◌∙◌}
use Rattle.leaves.specs.Symbols.{symbol_of}
use Rattle.tokens.specs.Tokens.{tokens}
use Rattle.read_report.specs.Report.{first_lists, report_of}
use Rattle.read_report.proofs.Unique.{same}
use Rattle.read_report.proofs.laws.reports_are_unique.Goals as goal

pub returns : goal.returns
returns c text out other a b =
    let one = same symbol_of (length text) (tokens text) first_lists a.lists b.lists a.answer b.answer a.read b.read in
    b.bytes ∙ ap₂ report_of one.lists one.answer ∙ sym a.bytes
