use Rattle.listing.specs.Roots.{RootsBelow}
use Rattle.listing.proofs.roots.roots.Given as goal

abbrev pub invariant-loop-p : goal.invariant-loop-p
invariant-loop-p l = RootsBelow l.places l.p l.roots.items
