use Rattle.std.proofs.Common.{◌≡◌, arith}
use Rattle.nodes.proofs.MarkedRoots.{searched_all}
use Rattle.nodes.proofs.cycle.has_cycle.Goals as goal

pub returns : goal.returns
returns c =
    let at_end : c.loop-p.p ≡ c.args.size = omega arith in
    (λ e. cc, λ cycle. absurd (searched_all c.args.rows.now c.args.size c.loop-p.marks c.requires.forest c.requires.long (rw at_end at c.loop-p.invariant) cycle))
