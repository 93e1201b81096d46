-- The tokens left of a text, past white space and past a token. Assumes nothing.
use Rattle.std.proofs.Common.{◌≡◌, ℕ, zero, suc, ◌+◌, ◌-◌, ◌<◌, true, false, List, [], ◌∷◌, length, take, drop, slice_range, arith, refl, sym, ap, ap₂, ◌∙◌, subst, inl, inr}
use Rattle.std.specs.List.{prefix_len}
use Rattle.std.proofs.lemmas.Bool.{cases_Bool}
use Rattle.std.proofs.lemmas.List.{drop_all, drop-drop, length-drop}
use Rattle.tokens.specs.Words.{is_white}
use Rattle.tokens.specs.Tokens.{Token, front_class, front_size, front_token, tokens_after, tokens_from}
use Rattle.tokens.specs.declared.classes.Class.{Class}
use Rattle.tokens.proofs.FrontSizes.{front_size_some}

-- no tokens begin in the bytes that were taken
taken_dropped : (text : List ℕ) (taken offset : ℕ) → tokens_after text taken offset ≡ tokens_from (offset + taken) (drop taken text)
unfolding tokens_after
taken_dropped [] zero offset = refl
taken_dropped [] (suc taken) offset = refl
taken_dropped (b ∷ bs) zero offset = ap (λ n. tokens_after (b ∷ bs) 0 n) (omega arith)
taken_dropped (b ∷ bs) (suc taken) offset = taken_dropped bs taken (suc offset) ∙ ap (λ n. tokens_after (drop taken bs) 0 n) (omega arith)

pub after_white : (b : ℕ) (bs : List ℕ) (offset : ℕ) → is_white b ≡ true → tokens_from offset (b ∷ bs) ≡ tokens_from (suc offset) bs
unfolding tokens_after
after_white b bs offset e = grind arith

after_token : (b : ℕ) (bs : List ℕ) (offset : ℕ) → is_white b ≡ false → tokens_from offset (b ∷ bs) ≡ front_token offset (b ∷ bs) ∷ tokens_after bs (front_size (b ∷ bs) - 1) (suc offset)
unfolding tokens_after
after_token b bs offset e = grind arith

-- none begins in white space
pub white_dropped : (text : List ℕ) (offset : ℕ) → tokens_from offset text ≡ tokens_from (offset + prefix_len is_white text) (drop (prefix_len is_white text) text)
white_dropped [] offset = ap (λ n. tokens_from n []) (omega arith)
white_dropped (b ∷ bs) offset =
    let size = prefix_len is_white (b ∷ bs) in
    let more = prefix_len is_white bs in
    let at : ℕ → List _ = λ n. tokens_from (offset + n) (drop n (b ∷ bs)) in
    elim (cases_Bool (is_white b)) [
      | inl e ↦
          let longer : suc more ≡ size = grind arith in
          after_white b bs offset e ∙ white_dropped bs (suc offset) ∙ ap (λ n. tokens_from n (drop more bs)) (omega arith) ∙ ap at longer
      | inr e ↦
          let none : 0 ≡ size = grind arith in
          ap (λ n. tokens_from n (b ∷ bs)) (omega arith) ∙ ap at none
    ]

-- a text that is not empty and does not begin with white space
abbrev pub BeginsToken : List ℕ → Type 0
BeginsToken [] = ⊥
BeginsToken (b ∷ bs) = is_white b ≡ false

-- past the white space at its front a text is empty or begins with a token
pub begins_past_white : (text : List ℕ) → prefix_len is_white text < length text → BeginsToken (drop (prefix_len is_white text) text)
begins_past_white [] h = omega arith
begins_past_white (b ∷ bs) h = elim (cases_Bool (is_white b)) [
  | inl e ↦
      let longer : suc (prefix_len is_white bs) ≡ prefix_len is_white (b ∷ bs) = grind arith in
      subst (λ n. BeginsToken (drop n (b ∷ bs))) longer (begins_past_white bs (omega arith))
  | inr e ↦
      let none : 0 ≡ prefix_len is_white (b ∷ bs) = grind arith in
      subst (λ n. BeginsToken (drop n (b ∷ bs))) none e
]

-- the first token, and those after it
pub first_token : (text : List ℕ) (offset : ℕ) → BeginsToken text → (0 < front_size text) × (tokens_from offset text ≡ front_token offset text ∷ tokens_from (offset + front_size text) (drop (front_size text) text))
first_token [] offset e = absurd e
first_token (b ∷ bs) offset e =
    let size = front_size (b ∷ bs) in
    let some = front_size_some b bs e in
    let at : ℕ → List _ = λ n. tokens_from (offset + n) (drop n (b ∷ bs)) in
    let size_is : suc (size - 1) ≡ size = omega arith in
    let past : suc offset + (size - 1) ≡ offset + suc (size - 1) = omega arith in
    let later : tokens_after bs (size - 1) (suc offset) ≡ at size = taken_dropped bs (size - 1) (suc offset) ∙ ap (λ n. tokens_from n (drop (size - 1) bs)) past ∙ ap at size_is in
    (some, after_token b bs offset e ∙ ap (λ ts. front_token offset (b ∷ bs) ∷ ts) later)

-- the offset past the white space that follows the bytes before an offset
abbrev pub next_start : List ℕ → ℕ → ℕ
next_start text at = at + prefix_len is_white (drop at text)

-- nothing is left where only white space is
pub none_left : (text : List ℕ) (at start : ℕ) → start ≡ next_start text at → start ≡ length text → tokens_from at (drop at text) ≡ []
unfolding tokens_after
none_left text at start is e =
    let rest = drop at text in
    let none : drop (prefix_len is_white rest) rest ≡ [] = drop_all (prefix_len is_white rest) rest (omega (arith, length-drop at text)) in
    white_dropped rest at ∙ ap (λ s. tokens_from (at + prefix_len is_white rest) s) none

-- the token at the offset past the white space, and what is left after it
pub record NextToken (text : List ℕ) (at start : ℕ) (class : Class) (size : ℕ) : Type 0 where
  pub some : 0 < size
  pub left : tokens_from at (drop at text) ≡ record { start = start; class = class; bytes = slice_range text start (start + size) } ∷ tokens_from (start + size) (drop (start + size) text)

pub next_token : (text : List ℕ) (at start : ℕ) (class : Class) (size : ℕ) → start ≡ next_start text at → start < length text → class ≡ front_class (drop start text) → size ≡ front_size (drop start text) → NextToken text at start class size
next_token text at start class size is h class_is size_is =
    let rest = drop at text in
    let white = prefix_len is_white rest in
    let dropped : drop white rest ≡ drop start text = drop-drop white at text ∙ ap (λ n. drop n text) (sym is) in
    let begins : BeginsToken (drop start text) = subst BeginsToken dropped (begins_past_white rest (omega (arith, length-drop at text))) in
    let first = first_token (drop start text) start begins in
    let piece : ℕ → Class → Token = λ n k. record { start = start; class = k; bytes = take n (drop start text) } in
    let one : front_token start (drop start text) ≡ piece (start + size - start) class = ap₂ piece (omega (arith, size_is)) (sym class_is) in
    let after : tokens_from (start + front_size (drop start text)) (drop (front_size (drop start text)) (drop start text)) ≡ tokens_from (start + size) (drop (start + size) text) =
    ap (λ n. tokens_from (start + n) (drop n (drop start text))) (sym size_is) ∙ ap (λ s. tokens_from (start + size) s) (drop-drop size start text) in
    record {
      some = omega (arith, first.0, size_is);
      left = white_dropped rest at ∙ ap₂ (λ n s. tokens_from n s) (sym is) dropped ∙ first.1 ∙ ap₂ (λ t ts. t ∷ ts) one after;
    }
