-- A packed spelling gives its bytes back: no two spellings have one number. Assumes nothing.
use Rattle.std.proofs.Common.{w64, ◌≤◌, ap, ◌≡◌, ℕ, zero, suc, ◌+◌, ◌-◌, ◌<◌, List, ◌++◌, length, get_or, drop, replicate, sym, refl, ◌∙◌, subst, inl, inr, arith}
use Rattle.std.proofs.lemmas.List.{length-append, length-drop, length-replicate, ext_get_or, get_or_past, get_or_append_left, get_or-append_right, get_or-drop}
use Rattle.std.proofs.lemmas.Bool.{cases_lt, cases_order}
use Rattle.std.proofs.lemmas.Nat.{be_bytes_8}
use Rattle.std.specs.Int.{to_be_bytes}
use Rattle.recipe.specs.Packing.{packed, Spelling}
use Rattle.recipe.proofs.Lists.{replicate_at}

-- what holds at each of the eight places holds below eight
pub below_eight : (P : ℕ → Type 0) → P 0 → P 1 → P 2 → P 3 → P 4 → P 5 → P 6 → P 7 → (k : ℕ) → k < 8 → P k
below_eight P a b c d e f g h zero l = a
below_eight P a b c d e f g h (suc zero) l = b
below_eight P a b c d e f g h (suc (suc zero)) l = c
below_eight P a b c d e f g h (suc (suc (suc zero))) l = d
below_eight P a b c d e f g h (suc (suc (suc (suc zero)))) l = e
below_eight P a b c d e f g h (suc (suc (suc (suc (suc zero))))) l = f
below_eight P a b c d e f g h (suc (suc (suc (suc (suc (suc zero)))))) l = g
below_eight P a b c d e f g h (suc (suc (suc (suc (suc (suc (suc zero))))))) l = h
below_eight P a b c d e f g h (suc (suc (suc (suc (suc (suc (suc (suc k)))))))) l = absurd (omega arith)

-- a byte of a spelling, or 0 past its end
small : (a : List ℕ) → Spelling a → (k : ℕ) → get_or a k 0 < 256
small a s k = elim (cases_lt k (length a)) [ inl h ↦ (s.bytes k h).1 | inr h ↦ subst (λ n. n < 256) (sym (get_or_past a k 0 h)) (omega arith) ]

-- the bytes, and zeros behind them up to eight
abbrev pub padded : List ℕ → List ℕ
padded bs = bs ++ drop (length bs) (replicate 8 0)

-- the zeros are read as the bytes that are missing
padded_at : (bs : List ℕ) (n k : ℕ) → get_or (bs ++ drop (length bs) (replicate n 0)) k 0 ≡ get_or bs k 0
padded_at bs n k = elim (cases_lt k (length bs)) [
  | inl h ↦ get_or_append_left bs _ 0 k h
  | inr h ↦ get_or-append_right bs _ (length bs) k 0 refl h ∙ get_or-drop (length bs) (replicate n 0) (k - length bs) 0 ∙ replicate_at n (length bs + (k - length bs)) 0 ∙ sym (get_or_past bs k 0 h)
]

pub packed_padded : (bs : List ℕ) → packed (padded bs) ≡ packed bs
unfolding packed
packed_padded bs =
    let at = padded_at bs 8 in
    omega (arith, at 0, at 1, at 2, at 3, at 4, at 5, at 6, at 7)

padded_long : (bs : List ℕ) → length bs ≤ 8 → length (padded bs) ≡ 8
padded_long bs h = simp (length-append, length-drop, length-replicate) (omega arith)

-- the bytes of the number of a spelling are those of the spelling, and zeros
pub bytes_of : (bs : List ℕ) (n : ℕ) → Spelling bs → packed bs ≡ n → to_be_bytes w64 n ≡ padded bs
unfolding packed
bytes_of bs n s e =
    let at = padded_at bs 8 in
    be_bytes_8 (padded bs) n (padded_long bs s.short) (λ k. rw (at k) (small bs s k)) (sym e ∙ omega (arith, at 0, at 1, at 2, at 3, at 4, at 5, at 6, at 7))

digits : (a b : List ℕ) → Spelling a → Spelling b → packed a ≡ packed b → (k : ℕ) → get_or a k 0 ≡ get_or b k 0
digits a b s t e k =
    sym (padded_at a 8 k) ∙ ap (λ bs. get_or bs k 0) (sym (bytes_of a (packed b) s e) ∙ bytes_of b (packed b) t refl) ∙ padded_at b 8 k

-- the shorter of two spellings would end where the other has a byte
not_longer : (a b : List ℕ) → Spelling a → Spelling b → ((k : ℕ) → get_or a k 0 ≡ get_or b k 0) → length a < length b → ⊥
not_longer a b s t same h =
    omega (arith, (t.bytes (length a) h).0, same (length a), get_or_past a (length a) 0 (omega arith))

pub packed_once : (a b : List ℕ) → Spelling a → Spelling b → packed a ≡ packed b → a ≡ b
packed_once a b s t e =
    let same = digits a b s t e in
    elim (cases_order (length a) (length b)) [
      | inl long ↦ ext_get_or 0 a b long (λ k h. same k)
      | inr (inl h) ↦ absurd (not_longer a b s t same h)
      | inr (inr h) ↦ absurd (not_longer b a t s (λ k. sym (same k)) h)
    ]
