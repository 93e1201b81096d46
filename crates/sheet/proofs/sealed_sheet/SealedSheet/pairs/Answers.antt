use Rattle.std.proofs.Common.{◌∙◌, ap}
use Rattle.sheet.specs.Sheet.{pair_words}
use Rattle.sheet.proofs.Sheets.{filled_in, first_pairs, words_within}
use Rattle.sheet.proofs.sealed_sheet.SealedSheet.pairs.Goals as goal

pub split_at-requires : goal.split_at-requires
split_at-requires c = words_within c.self.invariant

pub returns-clause-words : goal.returns-clause-words
returns-clause-words c = c.split_at.ensures.front ∙ first_pairs c.self.invariant ∙ ap (λ s. pair_words s.told) c.self.view_is

pub returns-clause-filled : goal.returns-clause-filled
returns-clause-filled c = filled_in c.self.inside.size c.self.inside.names c.self.inside.leaves c.self.inside.standing c.self.inside.opened c.self.inside.memory.now c.self.invariant c.self.view_is
