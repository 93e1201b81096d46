use Rattle.std.proofs.Common.{get_or, not, ap}
use Rattle.std.proofs.lemmas.Bool.{both_ways, ne_eqb}
use Rattle.nodes.proofs.ScopeHeights.{names_apart, names_bound, names_free}
use Rattle.nodes.proofs.heights.Heights.same_name.Goals as goal

pub returns-then-here-ne0 : goal.returns-then-here-ne0
returns-then-here-ne0 c = λ Φ Ψ one two long. (
  λ e. names_bound Φ Ψ c.args.self.now c.args.other.now c.args.x c.args.y c.requires.first c.requires.second one two long c.if-here-other.true c.if-here-ne0.true,
  λ n. ap not (ne_eqb (get_or c.args.self.now.of c.args.x 0) 0 c.if-here-ne0.true),
)

pub returns-else-here-ne0 : goal.returns-else-here-ne0
returns-else-here-ne0 c =
    λ Φ Ψ one two long. names_free Φ Ψ c.args.self.now c.args.other.now c.args.x c.args.y c.requires.first c.requires.second one two long c.if-here-other.true c.if-here-ne0.false

pub returns-else-here-other : goal.returns-else-here-other
returns-else-here-other c = λ Φ Ψ one two long. (
  λ e. absurd (both_ways _ (ne_eqb (get_or c.args.self.now.of c.args.x 0) (get_or c.args.other.now.of c.args.y 0) c.if-here-other.false) e),
  λ n. absurd (names_apart Φ Ψ c.args.self.now c.args.other.now c.args.x c.args.y c.requires.first c.requires.second one two long c.if-here-other.false n),
)
