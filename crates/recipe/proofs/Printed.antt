-- A spelling comes back from the number that packs it. Assumes nothing.
use Rattle.std.proofs.Common.{◌≡◌, ℕ, zero, suc, ◌<◌, w64, List, [], ◌∷◌, ◌++◌, length, get_or, take, drop, true, false, codes, replicate, refl, ap, ◌∙◌, arith}
use Rattle.std.proofs.lemmas.Bool.{cond-false, cond-true, false_from_ne_true}
use Rattle.std.proofs.lemmas.Bool.Decides.{nat_tests}
use Rattle.std.proofs.lemmas.Str.{IsUtf8-from_is_utf8, is_utf8-from_IsUtf8}
use Rattle.std.specs.Fmt.{digits}
use Rattle.std.specs.Int.{to_be_bytes}
use Rattle.std.specs.List.{take_while, prefix_len}
use Rattle.std.specs.Str.{IsUtf8, is_utf8}
use Rattle.recipe.specs.Packing.{packed, Spelling, is_filled, unpacked, spelling_text}
use Rattle.recipe.proofs.PackedOnce.{bytes_of, padded}

-- the zeros that fill a spelling
zeros : (n m : ℕ) → prefix_len is_filled (drop n (replicate m 0)) ≡ 0
zeros zero zero = refl
zeros zero (suc m) = refl
zeros (suc n) zero = refl
zeros (suc n) (suc m) = zeros n m

-- bytes that are no zeros, before others of which the first is a zero
front : (w t : List ℕ) → ((k : ℕ) → k < length w → 0 < get_or w k 0) → prefix_len is_filled t ≡ 0 → take_while is_filled (w ++ t) ≡ w
front [] t all e = rw e refl
front (b ∷ bs) t all e =
    let some : 0 < b = all 0 (omega arith) in
    let here : is_filled b ≡ true = grind (arith, nat_tests, some) in
    let size : prefix_len is_filled (b ∷ bs ++ t) ≡ suc (prefix_len is_filled (bs ++ t)) = rw here (omega arith) in
    ap (λ n. take n (b ∷ bs ++ t)) size ∙ ap (λ l. b ∷ l) (front bs t (λ k h. all (suc k) (omega arith)) e)

from_bytes : (n : ℕ) (bs : List ℕ) → to_be_bytes w64 n ≡ bs → unpacked n ≡ take_while is_filled bs
unfolding unpacked
from_bytes n bs e = ap (take_while is_filled) e

pub comes_back : (w : List ℕ) → Spelling w → unpacked (packed w) ≡ w
comes_back w s =
    from_bytes (packed w) (padded w) (bytes_of w (packed w) s refl) ∙ front w (drop (length w) (replicate 8 0)) (λ k h. (s.bytes k h).0) (zeros (length w) 8)

-- bytes that are UTF-8 stand as they are, and others as the number
pub as_text : (n : ℕ) (bs : List ℕ) → unpacked n ≡ bs → IsUtf8 bs → spelling_text n ≡ bs
as_text n bs e text = cond-true _ _ _ (ap is_utf8 e ∙ is_utf8-from_IsUtf8 bs text) ∙ e

pub as_number : (n : ℕ) (bs : List ℕ) → unpacked n ≡ bs → ¬ (IsUtf8 bs) → spelling_text n ≡ codes "0x" ++ digits 16 false n
as_number n bs e none =
    cond-false _ _ _ (ap is_utf8 e ∙ false_from_ne_true _ (λ yes. none (IsUtf8-from_is_utf8 bs yes)))

pub printed : (w : List ℕ) → Spelling w → IsUtf8 w → spelling_text (packed w) ≡ w
printed w s text = as_text (packed w) w (comes_back w s) text
