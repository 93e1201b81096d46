use Rattle.std.proofs.Common.{◌∙◌, ◌*◌, ap, sym, length}
use Rattle.sheet.proofs.Sheets.{words_twice}
use Rattle.sheet.proofs.sealed_sheet.SealedSheet.standing.Goals as goal

pub returns-clause-half : goal.returns-clause-half
returns-clause-half c = ap (λ n. 2 * n) (sym c.self.invariant.counted ∙ ap (λ s. length s.told) c.self.view_is) ∙ sym (words_twice c.args.self.now.told)
