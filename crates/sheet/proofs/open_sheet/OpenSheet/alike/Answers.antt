use Rattle.std.proofs.Common.{nat_eq}
use Rattle.recipe.specs.Alike.{Alikes}
use Rattle.sheet.specs.Views.{pairs_in}
use Rattle.sheet.proofs.Sheets.{seen_in}
use Rattle.sheet.proofs.open_sheet.OpenSheet.alike.Goals as goal

pub alike-requires : goal.alike-requires
alike-requires c = record { solved = (c.self.inside.names, pairs_in c.self.inside.standing c.self.inside.memory.now, c.self.invariant.solved) }

pub returns : goal.returns
returns c = seen_in c.self.inside.size c.self.inside.names c.self.inside.leaves c.self.inside.standing c.self.inside.opened c.self.inside.memory.now (λ T ks told. Alikes nat_eq T c.args.p c.args.q c.alike.result) c.self.view_is c.alike.ensures
