-- Numbers of leaves past a list. Assumes nothing.
use Rattle.std.proofs.Common.{◌≡◌, ℕ, ◌+◌, ◌<◌, ◌≤◌, nat_eq, None, get_or, sym, ◌∙◌, arith, ne_eqb}
use Rattle.std.proofs.lemmas.List.FromFn.{get_or-range_with_len, length-range_with_len}
use Rattle.std.specs.List.{range_with_len}
use Rattle.recipe.specs.Numbering.{number_of}
use Rattle.recipe.proofs.Numbers.{lowest_unique, number_lowest}

-- a number from n on has no number among those below n
pub number_past : (n i : ℕ) → n ≤ i → number_of nat_eq (range_with_len 0 n) i ≡ None
number_past n i past =
    lowest_unique nat_eq (range_with_len 0 n) i (number_of nat_eq (range_with_len 0 n) i) None (number_lowest nat_eq (range_with_len 0 n) i)
    (λ k low. ne_eqb _ _ (λ e.
    let within : k < n = omega (arith, length-range_with_len 0 n, low) in
    let at : get_or (range_with_len 0 n) k i ≡ 0 + k = get_or-range_with_len 0 n k i within in
    omega (arith, sym at ∙ e, within, past)))
