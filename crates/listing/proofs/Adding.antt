-- Bytes that are added one after the other. Assumes nothing.
use Rattle.std.specs.Result.{IsOk, OnOk}
use Rattle.std.proofs.Common.{Ok, Err, Result, rules, ◌≡◌, ℕ, ◌+◌, ◌-◌, ◌≤◌, List, [], ◌++◌, length, take, min, sym, ap, ◌∙◌, inl, inr, arith, append_assoc}
use Rattle.std.proofs.lemmas.Bool.{cases_lt}
use Rattle.std.proofs.lemmas.List.{length-take-le, take_min, take-append-le, take_all, append-nil}
use Rattle.std.proofs.Math.Seq.{take-append-add}
use lib.Seq.{take-take}
use Rattle.listing.specs.Lines.{Adds}

-- the first n of the first n and more are those of all
cut_again : {A : Type 0} (n : ℕ) (xs ys : List A) → take n (take n xs ++ ys) ≡ take n (xs ++ ys)
cut_again n xs ys = elim (cases_lt (length xs) n) [
  | inl short ↦ ap (λ zs. take n (zs ++ ys)) (take_all n xs (omega arith))
  | inr long ↦ take-append-le n (take n xs) ys (omega (arith, length-take-le n xs long)) ∙ take-take n n xs (omega arith) ∙ sym (take-append-le n xs ys long)
]

-- bytes and more bytes
pub adds_more : {x y a b c : List ℕ} → Adds x a b → Adds y b c → Adds (x ++ y) a c
adds_more {x = x} {y = y} {a = a} {b = b} first second = record { cut = second.cut ∙ sym (cut_again 4096 b y) ∙ ap (λ bs. take 4096 (bs ++ y)) first.cut ∙ cut_again 4096 (a ++ x) y ∙ ap (take 4096) (append_assoc a x y) }

-- no bytes
pub adds_none : (a : List ℕ) → Adds [] a a
adds_none a = record { cut = ap (take 4096) (sym (append-nil a)) }

-- as many bytes as fit
pub adds_fit : (a b : List ℕ) (fits : ℕ) → length a ≤ 4096 → fits ≡ min (length b) (4096 - length a) → Adds b a (a ++ take fits b)
adds_fit a b fits room is =
    let split : length a + (4096 - length a) ≡ 4096 = omega arith in
    let turned : fits ≡ min (4096 - length a) (length b) = omega arith in
    record { cut = ap (take 4096) (ap (λ n. a ++ take n b) turned ∙ ap (λ zs. a ++ zs) (take_min (4096 - length a) b) ∙ sym (take-append-add a b (4096 - length a)) ∙ ap (λ n. take n (a ++ b)) split) ∙ take-take 4096 4096 (a ++ b) (omega arith) }

-- what is said of a value is so where there is one
pub said_of : {V W : Type 0} {P : Type 0} (r : Result V W) → IsOk r → OnOk r P → P
said_of (Ok v) is p = p
said_of (Err e) is p = absurd (search rules)
