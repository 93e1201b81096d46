-- Where the words of a text begin and end. Assumes nothing.
use Rattle.std.proofs.Common.{◌≡◌, ℕ, suc, ◌<◌, ◌≤◌, Bool, true, false, ◌||◌, not, eqb, List, [], ◌∷◌, ◌++◌, length, take, drop, sym, refl, ap, ◌∙◌, subst, inl, inr, one-add, arith}
use Rattle.std.specs.List.{filter, prefix_len, slice_split, onto_first}
use Rattle.std.proofs.lemmas.Grind.{common_steps}
use Rattle.std.proofs.lemmas.Bool.{both_ways, cases_Bool, cond-true, cond-false}
use Rattle.rate_report.specs.Words.{white, ended, extended, words}

pub words_white : (b : ℕ) (bs : List ℕ) → white b ≡ true → words (b ∷ bs) ≡ words bs
unfolding words
words_white b bs e = grind arith

pub words_alone : (b : ℕ) (bs : List ℕ) → white b ≡ false → ended bs ≡ true → words (b ∷ bs) ≡ (b ∷ []) ∷ words bs
unfolding words
words_alone b bs d e = grind arith

pub words_longer : (b : ℕ) (bs : List ℕ) → white b ≡ false → ended bs ≡ false → words (b ∷ bs) ≡ extended b (words bs)
unfolding words
words_longer b bs d e = grind arith

-- the byte is no white space
abbrev pub solid : ℕ → Bool
solid b = not (white b)

-- one byte more in front of a text
pub leading_yes : (p : ℕ → Bool) (b : ℕ) (bs : List ℕ) → p b ≡ true → prefix_len p (b ∷ bs) ≡ suc (prefix_len p bs)
leading_yes p b bs e = cond-true (p b) _ _ e ∙ one-add (prefix_len p bs)

pub leading_no : (p : ℕ → Bool) (b : ℕ) (bs : List ℕ) → p b ≡ false → prefix_len p (b ∷ bs) ≡ 0
leading_no p b bs e = cond-false (p b) _ _ e

-- past the longest front that passes, nothing passes
pub leading_again : (p : ℕ → Bool) (s : List ℕ) → prefix_len p (drop (prefix_len p s) s) ≡ 0
leading_again p [] = refl
leading_again p (b ∷ bs) =
    elim (cases_Bool (p b)) [ inl e ↦ rw (leading_yes p b bs e) (leading_again p bs) | inr e ↦ rw (leading_no p b bs e) (leading_no p b bs e) ]

-- white space before the first word
pub words_skip : (s : List ℕ) → words (drop (prefix_len white s) s) ≡ words s
words_skip [] = refl
words_skip (b ∷ bs) =
    elim (cases_Bool (white b)) [
      | inl e ↦ rw (leading_yes white b bs e) (words_skip bs ∙ sym (words_white b bs e))
      | inr e ↦ rw (leading_no white b bs e) refl
    ]

-- a text that begins with no byte of either kind is empty
empty : (s : List ℕ) → prefix_len white s ≡ 0 → prefix_len solid s ≡ 0 → words s ≡ []
unfolding words
empty [] d e = refl
empty (b ∷ bs) d e =
    elim (cases_Bool (white b)) [
      | inl h ↦ absurd (omega (arith, leading_yes white b bs h))
      | inr h ↦ absurd (omega (arith, leading_yes solid b bs (ap not h)))
    ]

-- no word is left
pub words_none : (s : List ℕ) → prefix_len solid (drop (prefix_len white s) s) ≡ 0 → words s ≡ []
words_none s stop = sym (words_skip s) ∙ empty (drop (prefix_len white s) s) (leading_again white s) stop

-- a word goes on exactly where other bytes than white space follow
pub ended_stops : (s : List ℕ) → ended s ≡ true → prefix_len solid s ≡ 0
ended_stops [] e = refl
ended_stops (b ∷ bs) e = leading_no solid b bs (ap not e)

pub goes_on : (s : List ℕ) → ended s ≡ false → 0 < prefix_len solid s
goes_on [] e = absurd (both_ways true e refl)
goes_on (b ∷ bs) e = omega (arith, leading_yes solid b bs (ap not e))

-- the first n bytes of s are its first word, and its other words follow
abbrev pub First : List ℕ → ℕ → Type 0
First s n = words s ≡ take n s ∷ words (drop n s)

-- a text that begins with another byte than white space begins with a word
pub words_first : (s : List ℕ) → 0 < prefix_len solid s → First s (prefix_len solid s)
words_first [] some = absurd (omega arith)
words_first (b ∷ bs) some =
    elim (cases_Bool (white b)) [
      | inl e ↦ absurd (omega (arith, leading_no solid b bs (ap not e)))
      | inr e ↦ subst (First (b ∷ bs)) (sym (leading_yes solid b bs (ap not e))) (elim (cases_Bool (ended bs)) [
        | inl h ↦ words_alone b bs e h ∙ sym (ap (λ k. (b ∷ take k bs) ∷ words (drop k bs)) (ended_stops bs h))
        | inr h ↦ words_longer b bs e h ∙ ap (extended b) (words_first bs (goes_on bs h))
      ])
    ]

-- there are no more words than bytes
extended_few : (b : ℕ) (ws : List (List ℕ)) → length (extended b ws) ≤ suc (length ws)
extended_few b [] = omega arith
extended_few b (w ∷ ws) = omega arith

pub words_few : (s : List ℕ) → length (words s) ≤ length s
unfolding words
words_few [] = omega arith
words_few (b ∷ bs) =
    let few = words_few bs in
    elim (cases_Bool (white b)) [
      | inl e ↦ omega (arith, ap length (words_white b bs e))
      | inr e ↦ elim (cases_Bool (ended bs)) [
        | inl h ↦ omega (arith, ap length (words_alone b bs e h))
        | inr h ↦ omega (arith, ap length (words_longer b bs e h), extended_few b (words bs))
      ]
    ]

-- there is a first word
abbrev SomeWord : List (List ℕ) → Type 0
SomeWord ws = (w : List ℕ) × (more : List (List ℕ)) × (ws ≡ w ∷ more)

extended_some : (b : ℕ) (ws : List (List ℕ)) → SomeWord (extended b ws)
extended_some b [] = (b ∷ [], [], refl)
extended_some b (w ∷ ws) = (b ∷ w, ws, refl)

-- a text that begins with another byte than white space has a word
pub words_some : (s : List ℕ) → ended s ≡ false → SomeWord (words s)
words_some [] e = absurd (both_ways true e refl)
words_some (b ∷ bs) e =
    elim (cases_Bool (ended bs)) [
      | inl h ↦ (b ∷ [], words bs, words_alone b bs e h)
      | inr h ↦ rw (words_longer b bs e h) (extended_some b (words bs))
    ]

extended_append : (b : ℕ) (xs ys : List (List ℕ)) → SomeWord xs → extended b (xs ++ ys) ≡ extended b xs ++ ys
extended_append b xs ys (w, ws, e) = rw e refl

-- the text is empty or ends in white space
abbrev pub last_white : List ℕ → Bool
last_white [] = true
last_white (b ∷ []) = white b
last_white (b ∷ c ∷ cs) = last_white (c ∷ cs)

-- no word of s goes on in t
abbrev pub Apart : List ℕ → List ℕ → Type 0
Apart s t = (ended t || last_white s) ≡ true

pub words_apart : (s t : List ℕ) → Apart s t → words (s ++ t) ≡ words s ++ words t
unfolding words
words_apart [] t e = refl
words_apart (b ∷ []) t e = elim (cases_Bool (white b)) [ inl h ↦ grind arith | inr h ↦ grind (arith, common_steps) ]
words_apart (b ∷ c ∷ cs) t e =
    let more = words_apart (c ∷ cs) t e in
    elim (cases_Bool (white b)) [
      | inl h ↦ rw (words_white b (c ∷ cs ++ t) h, words_white b (c ∷ cs) h) more
      | inr h ↦ elim (cases_Bool (white c)) [
        | inl k ↦ rw (words_alone b (c ∷ cs ++ t) h k, words_alone b (c ∷ cs) h k) (ap (λ ws. (b ∷ []) ∷ ws) more)
        | inr k ↦ rw (words_longer b (c ∷ cs ++ t) h k, words_longer b (c ∷ cs) h k) (ap (extended b) more ∙ extended_append b (words (c ∷ cs)) (words t) (words_some (c ∷ cs) k))
      ]
    ]

abbrev pub not_empty : List ℕ → Bool
not_empty piece = not (eqb (length piece) 0)

-- one byte more in front of a first piece that is not empty
extended_kept : (b c : ℕ) (pieces : List (List ℕ)) → filter not_empty (onto_first b (onto_first c pieces)) ≡ extended b (filter not_empty (onto_first c pieces))
extended_kept b c [] = refl
extended_kept b c (piece ∷ more) = grind arith

-- the words of a text are the pieces of its split at white space that are not empty
pub pieces : (s : List ℕ) → filter not_empty (slice_split white s) ≡ words s
unfolding words
pieces [] = refl
pieces (b ∷ []) = grind arith
pieces (b ∷ c ∷ cs) =
    let more = pieces (c ∷ cs) in
    elim (cases_Bool (white b)) [
      | inl e ↦ grind (arith, more)
      | inr e ↦ elim (cases_Bool (white c)) [
        | inl k ↦ grind (arith, more)
        | inr k ↦ grind (arith, more, extended_kept b c (slice_split white cs))
      ]
    ]
