use Rattle.std.proofs.Common.{ap, subst, sym, ◌+◌, ◌∙◌}
use Rattle.listing.specs.Roots.{RootsBelow}
use Rattle.listing.proofs.RootsCollected.{root_less, root_more}
use Rattle.listing.proofs.roots.roots.Goals as goal
use Rattle.listing.proofs.roots.roots.Goals.{else-not-is_held, then-not-is_held}

pub loop-p-preserved : goal.loop-p-preserved
loop-p-preserved c =
    elim c.if-not-is_held.branch [
      | then-not-is_held w ↦
          subst (RootsBelow c.args.places.now (c.loop-p.p + 1)) (sym (ap (λ v. v.items) w.roots-is ∙ w.push.ensures.items))
          (root_more c.loop-p.invariant (sym c.is_held.ensures ∙ w.if-not-is_held.true))
      | else-not-is_held w ↦
          subst (RootsBelow c.args.places.now (c.loop-p.p + 1)) (sym (ap (λ v. v.items) w.roots-is))
          (root_less c.loop-p.invariant (sym c.is_held.ensures ∙ w.if-not-is_held.false))
    ]
