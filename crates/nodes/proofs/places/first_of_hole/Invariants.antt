use Rattle.std.proofs.Common.{◌≡◌, ℕ, ◌<◌}
use Rattle.recipe.specs.Tables.{Form}
use Rattle.nodes.specs.Records.{written_form}
use Rattle.nodes.proofs.places.first_of_hole.Given as goal

abbrev pub invariant-loop-q : goal.invariant-loop-q
invariant-loop-q l = (k : ℕ) → k < l.q → written_form l.words k ≡ Form.hole l.number → ⊥
