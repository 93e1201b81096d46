use Rattle.std.proofs.Common.{get_or, ap, ◌∙◌, arith}
use Rattle.recipe.proofs.Lists.{replicate_at}
use Rattle.nodes.proofs.MarkedPlaces.{marked_all, marked_none}
use Rattle.nodes.proofs.clash.has_clash.Goals as goal

pub loop-p-init : goal.loop-p-init
loop-p-init c = marked_none c.args.rows.now c.args.words.now c.fill.new.self (λ r. ap (λ marks. get_or marks r 0) (c.fill.ensures.after (λ y e. e)) ∙ replicate_at _ r 0)

pub returns : goal.returns
returns c = (
  λ e. cc,
  λ (p, q, h, k, o). absurd (marked_all c.args.rows.now c.args.words.now c.loop-p.p p q c.loop-p.marks c.loop-p.invariant (omega arith) (omega arith) o),
)
