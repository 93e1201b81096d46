-- Laws of the spelling of rates. Assumes nothing. (Lemmas, here because the proofs of the laws cite them: a reader of the statements may pass this file over.)
use Rattle.std.specs.Prelude.{◌≡◌, ℕ, ◌+◌, ◌^◌, ◌<◌, true, List, [], ◌∷◌, ◌++◌, length, take, drop, Some, None, Option, refl}
use Rattle.std.proofs.Common.{sym, ap, subst, ◌∙◌, arith}
use Rattle.std.proofs.lemmas.List.{append-nil, drop_at, length-append, take-append-drop, take_at}
use Rattle.std.proofs.lemmas.Bool.Decides.{nat_tests}
use Rattle.std.specs.Str.Parse.{digits_value}
use Rattle.std.specs.Char.{is_ascii_digit}
use Rattle.std.specs.List.{list_all, prefix_len}
use Rattle.leaves.specs.RateReading.{is_numeral, ratio, whole_rate, fraction_rate, decimal_rate, rate_after, rate_of}
use Rattle.leaves.specs.Rates.{Numeral, Form, whole, fraction, decimal, SpellsRate, SpelledBy}
use Rattle.leaves.specs.declared.rate.Rate.{Rate}

pub numeral_parts : (most : ℕ) (ds : List ℕ) → is_numeral most ds ≡ true → Numeral most ds
numeral_parts most ds e = grind (arith, nat_tests)

pub numeral_from : (most : ℕ) (ds : List ℕ) → Numeral most ds → is_numeral most ds ≡ true
numeral_from most ds n = grind (arith, nat_tests, n)

long_after : (n rest : List ℕ) → 21 < length n + length rest → rate_after n rest ≡ None
unfolding rate_after
long_after n [] h = grind (arith, nat_tests)
long_after n (b ∷ m) h = grind (arith, nat_tests)

-- digits that something else follows
leading_front : (n rest : List ℕ) → list_all is_ascii_digit n ≡ true → prefix_len is_ascii_digit rest ≡ 0 → prefix_len is_ascii_digit (n ++ rest) ≡ length n
leading_front [] rest e stop = stop
leading_front (d ∷ n) rest e stop = grind (arith, leading_front n rest)

-- the digits n are the first digits of n and what follows them
cut : (n rest : List ℕ) → list_all is_ascii_digit n ≡ true → prefix_len is_ascii_digit rest ≡ 0 → rate_of (n ++ rest) ≡ rate_after n rest
unfolding rate_of
cut n rest e stop =
    rw (leading_front n rest e stop, take_at n rest (length n) refl, drop_at n rest (length n) refl)

form_read : {word : List ℕ} {n d : ℕ} → Form word n d → rate_of word ≡ ratio n d
unfolding rate_after
form_read (whole {n} a) = ap rate_of (sym (append-nil n)) ∙ cut n [] a.all refl ∙ grind (arith, nat_tests, a)
form_read (fraction {n} {d} a b) = cut n (47 ∷ d) a.all refl ∙ grind (arith, nat_tests, a, b)
form_read (decimal {n} {f} a b) = cut n (46 ∷ f) a.all refl ∙ grind (arith, nat_tests, a, b)

-- a ratio within the limits
limits : (word : List ℕ) (n d : ℕ) (x : Rate) → Form word n d → ratio n d ≡ Some x → SpellsRate word x
limits word n d x form e = grind (arith, nat_tests)

whole_spells : (n : List ℕ) (x : Rate) → whole_rate n ≡ Some x → SpellsRate n x
whole_spells n x e =
    limits n (digits_value 10 n) 1 x (whole (numeral_parts 10 n (grind (arith, nat_tests)))) (grind (arith, nat_tests))

fraction_spells : (n d : List ℕ) (x : Rate) → fraction_rate n d ≡ Some x → SpellsRate (n ++ 47 ∷ d) x
fraction_spells n d x e =
    limits (n ++ 47 ∷ d) (digits_value 10 n) (digits_value 10 d) x
    (fraction (numeral_parts 10 n (grind (arith, nat_tests))) (numeral_parts 10 d (grind (arith, nat_tests)))) (grind (arith, nat_tests))

decimal_spells : (n f : List ℕ) (x : Rate) → decimal_rate n f ≡ Some x → SpellsRate (n ++ 46 ∷ f) x
decimal_spells n f x e =
    limits (n ++ 46 ∷ f) (digits_value 10 (n ++ f)) (10 ^ length f) x
    (decimal (numeral_parts 10 n (grind (arith, nat_tests))) (numeral_parts 6 f (grind (arith, nat_tests)))) (grind (arith, nat_tests))

after_spells : (n rest : List ℕ) (x : Rate) → rate_after n rest ≡ Some x → SpellsRate (n ++ rest) x
unfolding rate_after
after_spells n [] x e = rw (append-nil n) (whole_spells n x e)
after_spells n (b ∷ m) x e = grind (arith, nat_tests, fraction_spells n m x, decimal_spells n m x)

spells_read : (word : List ℕ) (x : Rate) → SpellsRate word x → rate_of word ≡ Some x
spells_read word x s = form_read s.form ∙ grind (arith, nat_tests, s)

-- the rate that is read is the one that the word spells
pub spelled_by : (word : List ℕ) (r : Option Rate) → r ≡ rate_of word → SpelledBy word r
unfolding rate_of
spelled_by word r is x =
    let k = prefix_len is_ascii_digit word in (
      λ e. subst (λ w. SpellsRate w x) (take-append-drop k word) (after_spells (take k word) (drop k word) x (sym is ∙ e)),
      λ s. is ∙ spells_read word x s,
    )

-- no word of more than 21 bytes spells a rate
pub rate_bounded : (word : List ℕ) → 21 < length word → rate_of word ≡ None
unfolding rate_of
rate_bounded word h =
    let k = prefix_len is_ascii_digit word in
    long_after (take k word) (drop k word) (omega (arith, simp length-append at (ap length (take-append-drop k word))))
