use Rattle.std.proofs.lemmas.Bool.{both_ways}
use Rattle.nodes.proofs.ClashesFound.{none_found}
use Rattle.nodes.proofs.clash.find_clash.Goals as goal

pub returns-then-not-has_clash : goal.returns-then-not-has_clash
returns-then-not-has_clash c told joined roots =
    none_found c.args.size c.args.words.now c.args.rows.now told joined roots (λ j k h i o. both_ways _ c.if-not-has_clash.true (c.has_clash.ensures.1 (j, k, h, i, o)))
