use Rattle.nodes.proofs.heights.+heights_at.Given as goal

abbrev pub decreases-heights_at : goal.decreases-heights_at
decreases-heights_at l = l.p
