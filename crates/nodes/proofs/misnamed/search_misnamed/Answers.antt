use Rattle.std.proofs.Common.{get_or, ap, ◌∙◌, below_more, arith}
use Rattle.std.proofs.lemmas.Bool.{both_ways}
use Rattle.recipe.proofs.Lists.{replicate_at}
use Rattle.nodes.proofs.MarkedNames.{names_unmarked}
use Rattle.nodes.proofs.misnamed.search_misnamed.Goals as goal

pub loop-p-init : goal.loop-p-init
loop-p-init c = record {
  none = λ k low w. absurd (omega arith);
  marked = names_unmarked c.args.names_rows.now c.args.rows.now c.args.words.now c.args.names c.fill.new.self
      (λ r. ap (λ marks. get_or marks r 0) (c.fill.ensures.after (λ y e. e)) ∙ replicate_at _ r 0);
}

pub loop-p-preserved : goal.loop-p-preserved
loop-p-preserved c = record {
  none = below_more _ _ c.loop-p.invariant.none (λ w. both_ways _ c.if-is_misnamed.false (c.is_misnamed.ensures.misnamed.1 w));
  marked = c.is_misnamed.ensures.marked c.if-is_misnamed.false;
}

pub returns : goal.returns
returns c = λ k low. c.loop-p.invariant.none k (omega arith)
