-- The front of an input that is listed, and its words. Assumes nothing.
use Rattle.std.proofs.Common.{◌≡◌, ℕ, zero, suc, ◌+◌, ◌-◌, ◌<◌, ◌≤◌, true, false, List, [], ◌∷◌, ◌++◌, length, get_or, take, drop, sym, refl, ap, ◌∙◌, subst, inl, inr, arith, take-suc, Option, Some, None, MatchOption}
use Rattle.std.proofs.lemmas.Grind.{common_steps}
use Rattle.std.proofs.lemmas.List.{drop_all, drop_more, get_or_past, take_all, take-append-drop, take_at}
use Rattle.std.proofs.lemmas.Bool.{both_ways, cases_Bool, cases_lt, or_cases, or_from, or_left, or_right}
use Rattle.rate_report.specs.Limit.{after_white, breaks, Keeps, FirstWords, last_break, kept}
use Rattle.rate_report.specs.Words.{white, ended, words}
use Rattle.rate_report.proofs.Cuts.{last_white, Apart, words_apart}

last_push : (s : List ℕ) (b : ℕ) → white b ≡ true → last_white (s ++ b ∷ []) ≡ true
last_push [] b e = e
last_push (c ∷ []) b e = e
last_push (c ∷ d ∷ ds) b e = last_push (d ∷ ds) b e

-- the last break after the last white space, at i; without white space it is the start
break_at : (s : List ℕ) (n i : ℕ) → i < n → white (get_or s i 0) ≡ true → ((k : ℕ) → i + 1 ≤ k → k < n → white (get_or s k 0) ≡ false) → last_break s n ≡ i + 1
unfolding last_break
break_at s zero i h here after = absurd (omega arith)
break_at s (suc n) i h here after = grind (arith, common_steps, after n, break_at s n i)

break_start : (s : List ℕ) (n : ℕ) → ((k : ℕ) → k < n → white (get_or s k 0) ≡ false) → last_break s n ≡ 0
unfolding last_break
break_start s zero none = refl
break_start s (suc n) none = grind (arith, none n, break_start s n (λ k h. none k (omega arith)))

-- the last break of a text, from the index of its last white space
pub break_found : (s : List ℕ) (last : Option ℕ) (at : ℕ) → MatchOption last ((k : ℕ) → k < length s → white (get_or s k 0) ≡ false) (λ i. (i < length s) × (white (get_or s i 0) ≡ true) × ((k : ℕ) → i + 1 ≤ k → k < length s → white (get_or s k 0) ≡ false)) → MatchOption last (at ≡ 0) (λ i. at ≡ i + 1) → at ≡ last_break s (length s)
break_found s None at none is = is ∙ sym (break_start s (length s) none)
break_found s (Some i) at here is = is ∙ sym (break_at s (length s) i here.0 here.1 here.2)

-- a break below the end of a front is one of the text
break_front : (s : List ℕ) (n m : ℕ) → m ≤ n → last_break (take n s) m ≡ last_break s m
unfolding last_break
break_front s n zero h = refl
break_front s n (suc m) h = grind (arith, common_steps, break_front s n m)

break_within : (s : List ℕ) (n : ℕ) → last_break s n ≤ n
unfolding last_break
break_within s zero = omega arith
break_within s (suc n) = grind (arith, break_within s n)

-- the place that is found follows white space
break_white : (s : List ℕ) (n : ℕ) → after_white s (last_break s n) ≡ true
unfolding last_break
break_white s zero = refl
break_white s (suc n) = grind (arith, break_white s n)

-- and no byte between it and n is white space
break_solid : (s : List ℕ) (n k : ℕ) → last_break s n ≤ k → k < n → white (get_or s k 0) ≡ false
unfolding last_break
break_solid s zero k low high = absurd (omega arith)
break_solid s (suc n) k low high = grind (arith, break_solid s n k)

-- a text breaks at its end, and before white space
ended_past : (s : List ℕ) (k : ℕ) → length s ≤ k → ended (drop k s) ≡ true
ended_past s k h = ap ended (drop_all k s h)

ended_at : (s : List ℕ) (k : ℕ) → k < length s → ended (drop k s) ≡ white (get_or s k 0)
ended_at s k h = ap ended (drop_more s k 0 h)

-- and nowhere between two other bytes
no_break : (s : List ℕ) (n : ℕ) → 0 < n → n < length s → white (get_or s (n - 1) 0) ≡ false → white (get_or s n 0) ≡ false → breaks s n ≡ false
no_break s zero some h before after = absurd (omega arith)
no_break s (suc n) some h before after =
    let k : suc n - 1 ≡ n = omega arith in
    or_from (ended (drop (suc n) s)) (white (get_or s n 0)) (ended_at s (suc n) h ∙ after) (ap (λ i. white (get_or s i 0)) (sym k) ∙ before)

-- the front that is kept, by the three cases of its definition
all_kept : (limit : ℕ) (s : List ℕ) → length s ≤ limit → Keeps limit s s
all_kept limit s h = record {
  size = limit;
  front = sym (take_all limit s h);
  within = omega arith;
  whole = or_left _ _ (ended_past s limit h);
  longest = λ n low high. absurd (omega arith);
}

cut_at_white : (limit : ℕ) (s : List ℕ) → limit < length s → white (get_or s limit 0) ≡ true → Keeps limit s (take limit s)
cut_at_white limit s h e = record {
  size = limit;
  front = refl;
  within = omega arith;
  whole = or_left _ _ (ended_at s limit h ∙ e);
  longest = λ n low high. absurd (omega arith);
}

cut_before_word : (limit : ℕ) (s : List ℕ) → limit < length s → white (get_or s limit 0) ≡ false → Keeps limit s (take (last_break s limit) s)
cut_before_word limit s h e = record {
  size = last_break s limit;
  front = refl;
  within = break_within s limit;
  whole = or_right _ _ (break_white s limit);
  longest = λ n low high. no_break s n (omega arith) (omega arith) (break_solid s limit (n - 1) (omega arith) (omega arith)) (here n (omega arith) high);
}
  where
    here : (n : ℕ) → last_break s limit ≤ n → n ≤ limit → white (get_or s n 0) ≡ false
    here n low high = grind (arith, e, break_solid s limit n low)

-- the cases of `kept`
pub kept_all : (limit : ℕ) (s : List ℕ) → length s ≤ limit → kept limit s ≡ s
unfolding kept
kept_all limit s h = grind arith

pub kept_at_white : (limit : ℕ) (s : List ℕ) → limit < length s → white (get_or s limit 0) ≡ true → kept limit s ≡ take limit s
unfolding kept
kept_at_white limit s h e = grind arith

kept_before_word : (limit : ℕ) (s : List ℕ) → limit < length s → white (get_or s limit 0) ≡ false → kept limit s ≡ take (last_break s limit) s
unfolding kept
kept_before_word limit s h e = grind arith

pub kept_from_front : (limit : ℕ) (s : List ℕ) (n : ℕ) → limit < length s → white (get_or s limit 0) ≡ false → n ≡ last_break (take limit s) (length (take limit s)) → kept limit s ≡ take n s
kept_from_front limit s n h e is = grind (arith, common_steps, is, kept_before_word limit s h e, break_front s limit limit)

pub ruleset kept_cases = (kept_all, kept_at_white, kept_from_front)

pub keeps : (limit : ℕ) (s : List ℕ) → Keeps limit s (kept limit s)
keeps limit s =
    elim (cases_lt limit (length s)) [
      | inl h ↦ elim (cases_Bool (white (get_or s limit 0))) [
        | inl w ↦ rw (kept_at_white limit s h w) (cut_at_white limit s h w)
        | inr w ↦ rw (kept_before_word limit s h w) (cut_before_word limit s h w)
      ]
      | inr h ↦ rw (kept_all limit s h) (all_kept limit s h)
    ]

-- a place that follows white space ends a front in white space
last_after : (s : List ℕ) (k : ℕ) → after_white s k ≡ true → last_white (take k s) ≡ true
last_after s zero e = refl
last_after s (suc k) e =
    elim (cases_lt k (length s)) [
      | inl h ↦ subst (λ l. last_white l ≡ true) (sym (take-suc s k 0 h)) (last_push (take k s) (get_or s k 0) e)
      | inr h ↦ absurd (both_ways (white 0) refl (ap white (sym (get_or_past s k 0 h)) ∙ e))
    ]

-- the words of a front past which no word goes on
front_words : (s : List ℕ) (k : ℕ) → breaks s k ≡ true → FirstWords s (take k s)
front_words s k whole =
    let apart : Apart (take k s) (drop k s) = elim (or_cases (ended (drop k s)) (after_white s k) whole) [ inl e ↦ or_left _ _ e | inr e ↦ or_right _ _ (last_after s k e) ] in
    let a = words (take k s) in
    let b = words (drop k s) in
    let all : words s ≡ a ++ b = sym (ap words (take-append-drop k s)) ∙ words_apart (take k s) (drop k s) apart in
    (length a, sym (ap (take (length a)) all ∙ take_at a b (length a) refl))

pub first_words : (limit : ℕ) (s t : List ℕ) → Keeps limit s t → FirstWords s t
first_words limit s t k = subst (FirstWords s) (sym k.front) (front_words s k.size k.whole)
