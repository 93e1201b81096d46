use Rattle.std.proofs.Common.{◌≡◌, ◌≢◌, ℕ, ◌<◌, List, ◌∙◌, arith}
use Rattle.std.proofs.lemmas.Bool.{both_ways}
use Rattle.nodes.specs.MisnamedRoots.{ApartFrom, DoubleRoot, SpoiledRoot, name_root}
use Rattle.nodes.proofs.misnamed.is_spoiled.Goals as goal

-- what is spoiled is apart, where it is neither of the others
left_apart : (names_rows rows ws : List ℕ) (m p x : ℕ) → name_root names_rows m p x ≢ 0 → (DoubleRoot names_rows m p x → ⊥) → SpoiledRoot names_rows rows ws m p x → (q : ℕ) × (q < p) × ApartFrom names_rows rows ws m p x q
left_apart names_rows rows ws m p x there one (SpoiledRoot.gone e) = absurd (there e)
left_apart names_rows rows ws m p x there one (SpoiledRoot.double d) = absurd (one d)
left_apart names_rows rows ws m p x there one (SpoiledRoot.apart {q = q} lower a) = (q, lower, a)

pub returns-clause-spoiled : goal.returns-clause-spoiled
returns-clause-spoiled c = (
  λ e. let (q, lower, a) = c.is_apart.ensures.apart.0 e in SpoiledRoot.apart {q = q} lower a,
  λ s. c.is_apart.ensures.apart.1
      (left_apart c.args.names_rows.now c.args.rows.now c.args.words.now c.args.names c.args.p c.args.x
      (λ e. let at : c.root_of_name.result ≡ 0 = c.root_of_name.ensures ∙ e in absurd (omega arith))
      (λ d. both_ways _ c.if-is_double.false (c.is_double.ensures.1 d)) s),
)
