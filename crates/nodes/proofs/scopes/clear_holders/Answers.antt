use Rattle.std.proofs.Common.{◌∙◌, refl, below_more, arith}
use Rattle.nodes.proofs.HoldersSet.{forms_kept, holder_kept, holder_new}
use Rattle.nodes.proofs.Written.{only_set}
use Rattle.nodes.proofs.scopes.clear_holders.Goals as goal

pub loop-p-init : goal.loop-p-init
loop-p-init c = record { only = λ i other. refl; none = λ k h. absurd (omega arith); forms = λ p. refl }

pub loop-p-preserved : goal.loop-p-preserved
loop-p-preserved c =
    let i = c.loop-p in
    record {
      only = only_set _ _ _ _ (i.p, c.loop-p-test.true, refl) i.invariant.only;
      none = below_more _ _
          (λ k h. holder_kept i.words i.p 0 k (omega arith) ∙ i.invariant.none k h)
          (holder_new i.words i.p 0 (omega arith));
      forms = λ p. forms_kept i.words i.p 0 p ∙ i.invariant.forms p;
    }
