-- How the token is spelled that a text begins with. Assumes nothing.
use Rattle.std.proofs.Common.{◌≡◌, ℕ, suc, Bool, true, false, cond, List, [], ◌∷◌, ◌++◌, length, take, drop, bytes_eq, ◌&&◌, codes, arith, refl, sym, ap, ◌∙◌, subst, inl, inr}
use Rattle.std.specs.List.{prefix_len, list_all}
use Rattle.std.proofs.lemmas.Bool.{cases_Bool}
use Rattle.std.proofs.lemmas.Bool.Decides.{nat_tests}
use Rattle.std.proofs.lemmas.List.{take-append-drop}
use Rattle.tokens.specs.Words.{in_word, word_size, class_of_word}
use Rattle.tokens.specs.Tokens.{begins, front_class, front_size}
use Rattle.tokens.specs.declared.classes.Class.{Class}
use Rattle.tokens.specs.declared.classes.Class.TheVariants.{Open, Close, Nil, Lambda, Name, Hole, Leaf, Unknown}
use Rattle.tokens.specs.Covering.{class_before, IsWord, IsSpelled}

-- the bytes at the front that pass a test pass it
pub front_passes : (p : ℕ → Bool) (text : List ℕ) → list_all p (take (prefix_len p text) text) ≡ true
front_passes p [] = refl
front_passes p (b ∷ bs) = elim (cases_Bool (p b)) [
  | inl e ↦
      let longer : suc (prefix_len p bs) ≡ prefix_len p (b ∷ bs) = grind arith in
      let both : list_all p (b ∷ take (prefix_len p bs) bs) ≡ true = grind (arith, front_passes p bs) in
      subst (λ n. list_all p (take n (b ∷ bs)) ≡ true) longer both
  | inr e ↦
      let none : 0 ≡ prefix_len p (b ∷ bs) = grind arith in
      subst (λ n. list_all p (take n (b ∷ bs)) ≡ true) none refl
]

-- and the byte after them does not
front_ends : (p : ℕ → Bool) (text : List ℕ) → prefix_len p (drop (prefix_len p text) text) ≡ 0
front_ends p [] = refl
front_ends p (b ∷ bs) = elim (cases_Bool (p b)) [
  | inl e ↦
      let longer : suc (prefix_len p bs) ≡ prefix_len p (b ∷ bs) = grind arith in
      subst (λ n. prefix_len p (drop n (b ∷ bs)) ≡ 0) longer (front_ends p bs)
  | inr e ↦
      let none : 0 ≡ prefix_len p (b ∷ bs) = grind arith in
      subst (λ n. prefix_len p (drop n (b ∷ bs)) ≡ 0) none (sym none)
]

begins_take : (text bytes : List ℕ) → begins text bytes ≡ true → take (length bytes) text ≡ bytes
begins_take text [] e = refl
begins_take [] (c ∷ cs) e = cc
begins_take (b ∷ bs) (c ∷ cs) e = grind (arith, nat_tests, begins_take bs cs)

-- a word is a lone apostrophe before a parenthesis exactly where the text begins so
pub lone : (word rest : List ℕ) → list_all in_word word ≡ true → word_size rest ≡ 0 → (bytes_eq word (codes "'") && begins rest (codes "(")) ≡ begins (word ++ rest) (codes "'(")
lone [] [] e z = refl
lone [] (b ∷ bs) e z = grind (arith, nat_tests)
lone (b ∷ []) [] e z = grind (arith, nat_tests)
lone (b ∷ []) (c ∷ cs) e z = grind (arith, nat_tests)
lone (b ∷ c ∷ cs) rest e z = grind (arith, nat_tests)

lone_in : (text : List ℕ) → (bytes_eq (take (word_size text) text) (codes "'") && begins (drop (word_size text) text) (codes "(")) ≡ begins text (codes "'(")
lone_in text = lone (take (word_size text) text) (drop (word_size text) text) (front_passes in_word text) (front_ends in_word text) ∙ ap (λ s. begins s (codes "'(")) (take-append-drop (word_size text) text)

-- what holds of the classes of words holds of the class of a word
word_class : (P : Class → Type 0) → P Leaf → P Lambda → P Name → P Hole → P Unknown → (word : List ℕ) → P (class_of_word word)
unfolding class_of_word
word_class P leaf lambda name hole bad [] = bad
word_class P leaf lambda name hole bad (b ∷ bs) = chosen _ _ _ leaf (chosen _ _ _ lambda (chosen _ _ _ name (chosen _ _ _ hole bad)))
  where
    chosen : (b : Bool) (x y : Class) → P x → P y → P (cond b x y)
    chosen true x y p q = p
    chosen false x y p q = q

-- the token that a text begins with, and what follows it, are spelled as the class says
abbrev SpelledAt : List ℕ → Class → ℕ → Type 0
SpelledAt text class size = IsSpelled class (take size text) (drop size text)

spelled_at : (text : List ℕ) (class : Class) (size : ℕ) → front_class text ≡ class → front_size text ≡ size → SpelledAt text class size → SpelledAt text (front_class text) (front_size text)
spelled_at text class size k n h = subst (λ c. SpelledAt text c (front_size text)) (sym k) (subst (λ s. SpelledAt text class s) (sym n) h)

as_word : (class : Class) (text : List ℕ) → begins text (codes "'()") ≡ false → class ≡ class_before (drop (word_size text) text) (take (word_size text) text) → IsWord class (take (word_size text) text) (drop (word_size text) text)
as_word class text other e = record {
  inside = front_passes in_word text;
  ended = front_ends in_word text;
  not_nil = ap (λ s. begins s (codes "'()")) (take-append-drop (word_size text) text) ∙ other;
  classed = e;
}

spelled_word : (text : List ℕ) → begins text (codes "'()") ≡ false → class_of_word (take (word_size text) text) ≡ class_before (drop (word_size text) text) (take (word_size text) text) → SpelledAt text (class_of_word (take (word_size text) text)) (word_size text)
spelled_word text other e =
    let word = take (word_size text) text in
    let rest = drop (word_size text) text in
    let P : Class → Type 0 = λ k. IsWord k word rest → IsSpelled k word rest in
    word_class P (λ h. h) (λ h. h) (λ h. h) (λ h. h) (λ h. h) word (as_word (class_of_word word) text other e)

pub front_spelled : (text : List ℕ) → SpelledAt text (front_class text) (front_size text)
front_spelled text =
    elim (cases_Bool (begins text (codes "("))) [
      | inl a ↦ spelled_at text Open 1 (grind arith) (grind arith) (begins_take text (codes "(") a)
      | inr a ↦ elim (cases_Bool (begins text (codes ")"))) [
        | inl b ↦ spelled_at text Close 1 (grind arith) (grind arith) (begins_take text (codes ")") b)
        | inr b ↦ elim (cases_Bool (begins text (codes "'()"))) [
          | inl c ↦ spelled_at text Nil 3 (grind arith) (grind arith) (begins_take text (codes "'()") c)
          | inr c ↦ elim (cases_Bool (begins text (codes "'("))) [
            | inl d ↦ spelled_at text Unknown (word_size text) (grind arith) (grind arith) (as_word Unknown text c (grind (arith, lone_in text)))
            | inr d ↦ spelled_at text (class_of_word (take (word_size text) text)) (word_size text) (grind arith) (grind arith) (spelled_word text c (grind (arith, lone_in text)))
          ]
        ]
      ]
    ]
