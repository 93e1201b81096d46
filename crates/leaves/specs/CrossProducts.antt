-- Equal cross products make a sameness of rates. Assumes nothing. (Lemmas, here because the proofs of the laws cite them: a reader of the statements may pass this file over.)
use Rattle.std.specs.Prelude.{◌≡◌, ℕ, ◌*◌, ◌<◌, true}
use Rattle.std.proofs.Common.{ap, ◌∙◌, mul_right_comm, arith}
use Rattle.std.proofs.Math.Nat.{eq_of_mul-eq-mul_right}
use Rattle.std.proofs.lemmas.Bool.Decides.{nat_tests}
use Rattle.recipe.proofs.Sameness.{Sameness}
use Rattle.leaves.specs.Rates.{same_rate}
use Rattle.leaves.specs.declared.rate.Rate.{Rate}

-- a/b with c/d, and c/d with e/f, where d is not 0
cross_trans : (a b c d e f : ℕ) → 0 < d → a * d ≡ c * b → c * f ≡ e * d → a * f ≡ e * b
cross_trans a b c d e f some left right =
    eq_of_mul-eq-mul_right d some (a * f) (e * b)
    (mul_right_comm a f d ∙ ap (λ n. n * f) left ∙ mul_right_comm c b f ∙ ap (λ n. n * b) right ∙ mul_right_comm e d b)

pub rate_reflexive : (x : Rate) → same_rate x x ≡ true
rate_reflexive x = grind (arith, nat_tests)

pub rate_symmetric : (x y : Rate) → same_rate x y ≡ true → same_rate y x ≡ true
rate_symmetric x y e = grind (arith, nat_tests)

pub rate_transitive : (x y z : Rate) → same_rate x y ≡ true → same_rate y z ≡ true → same_rate x z ≡ true
rate_transitive x y z left right =
    let t = cross_trans x.numerator x.denominator y.numerator y.denominator z.numerator z.denominator in
    grind (arith, nat_tests, t)

pub rate_sameness : Sameness same_rate
rate_sameness = record { reflexive = rate_reflexive; symmetric = rate_symmetric; transitive = rate_transitive }
