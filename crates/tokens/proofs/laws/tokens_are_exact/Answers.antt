use Rattle.std.proofs.Common.{sym, subst}
use Rattle.tokens.specs.Covering.{Covered}
use Rattle.tokens.proofs.Covers.{covered}
use Rattle.tokens.proofs.Exact.{exact}
use Rattle.tokens.proofs.laws.tokens_are_exact.Goals as goal

pub returns : goal.returns
returns c text ts = (exact ts 0 text, λ same. subst (λ l. Covered l 0 text) (sym same) (covered text))
