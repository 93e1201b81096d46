-- The size of the token that a text begins with. Assumes nothing.
use Rattle.std.proofs.Common.{◌≡◌, ℕ, ◌<◌, ◌≤◌, true, false, List, [], ◌∷◌, length, codes, arith}
use Rattle.std.proofs.lemmas.Bool.Decides.{nat_tests}
use Rattle.std.proofs.lemmas.List.Sums.{prefix_len-le-length}
use Rattle.std.specs.List.{prefix_len}
use Rattle.tokens.specs.Words.{is_white, in_word}
use Rattle.tokens.specs.Tokens.{begins, front_size}

pub white_size_within : (text : List ℕ) → prefix_len is_white text ≤ length text
white_size_within text = prefix_len-le-length is_white text

-- a text that begins with so many bytes has them
begins_within : (text bytes : List ℕ) → begins text bytes ≡ true → length bytes ≤ length text
begins_within text [] e = omega arith
begins_within [] (c ∷ cs) e = cc
begins_within (b ∷ bs) (c ∷ cs) e = grind (arith, nat_tests, begins_within bs cs)

pub front_size_within : (text : List ℕ) → front_size text ≤ length text
front_size_within text =
    grind (arith, nat_tests, prefix_len-le-length in_word text, begins_within text (codes "("), begins_within text (codes ")"), begins_within text (codes "'()"))

pub front_size_some : (b : ℕ) (bs : List ℕ) → is_white b ≡ false → 0 < front_size (b ∷ bs)
front_size_some b bs e = grind (arith, nat_tests)
