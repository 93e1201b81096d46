use Rattle.std.proofs.Common.{nat_eq}
use Rattle.recipe.specs.Looks.{Looks}
use Rattle.sheet.specs.Views.{pairs_in}
use Rattle.sheet.proofs.Sheets.{filled_in, seen_in}
use Rattle.sheet.proofs.sealed_sheet.SealedSheet.look.Goals as goal

pub returns-clause-found : goal.returns-clause-found
returns-clause-found c =
    seen_in c.self.inside.size c.self.inside.names c.self.inside.leaves c.self.inside.standing c.self.inside.opened c.self.inside.memory.now (λ T ks told. Looks nat_eq T ks told c.args.place c.args.path.now c.look.result) c.self.view_is
    (c.look.ensures (pairs_in c.self.inside.standing c.self.inside.memory.now) c.self.invariant.solved)

pub returns-clause-filled : goal.returns-clause-filled
returns-clause-filled c = filled_in c.self.inside.size c.self.inside.names c.self.inside.leaves c.self.inside.standing c.self.inside.opened c.self.inside.memory.now c.self.invariant c.self.view_is
