-- Lists of different spellings: how they grow, and which number a spelling has. Assumes nothing.
use Rattle.std.proofs.Common.{◌≡◌, ℕ, zero, suc, ap₂, not-suc-le-zero, le_of_suc-le-suc, ◌+◌, ◌≤◌, ◌<◌, Bool, true, false, cond, ◌||◌, not, List, [], ◌∷◌, ◌++◌, length, refl, ap, sym, subst, ◌∙◌, append_assoc, append-nil, length-append, arith}
use Rattle.std.proofs.lemmas.List.Elements.{All-append}
use Rattle.std.proofs.lemmas.Slice.Eq.{bytes_eq-Decides}
use Rattle.recipe.proofs.PackedOnce.{packed_once}
use Rattle.std.specs.Prelude.{bytes_eq, nat_eq, nat_lt, All}
use Rattle.std.specs.List.{list_any, position_or_len}
use Rattle.recipe.specs.Packing.{Spelling, packed}
use Rattle.notation.specs.Fitting.{with_word, with_words}
use Rattle.notation.specs.Tables.{number, numbers_of}

pub with_words_append : (ns v w : List (List ℕ)) → with_words ns (v ++ w) ≡ with_words (with_words ns v) w
unfolding with_words
with_words_append ns [] w = refl
with_words_append ns (x ∷ v) w = with_words_append (with_word ns x) v w

-- a list with one spelling more at its end, or none
one_grows : (b : Bool) (ns : List (List ℕ)) (w : List ℕ) → (more : List (List ℕ)) × (cond b ns (ns ++ w ∷ []) ≡ ns ++ more)
one_grows true ns w = ([], sym (append-nil ns))
one_grows false ns w = (w ∷ [], refl)

-- a list of different spellings goes on at its end only
pub with_words_grows : (ns ws : List (List ℕ)) → (more : List (List ℕ)) × (with_words ns ws ≡ ns ++ more)
unfolding with_words
with_words_grows ns [] = ([], sym (append-nil ns))
with_words_grows ns (w ∷ ws) =
    let (a, e) = one_grows (list_any (bytes_eq w) ns) ns w in
    let (m, f) = with_words_grows (with_word ns w) ws in
    (a ++ m, f ∙ ap (λ q. q ++ m) e ∙ append_assoc ns a m)

pub with_words_long : (ns ws : List (List ℕ)) → length ns ≤ length (with_words ns ws)
with_words_long ns ws =
    let (m, e) = with_words_grows ns ws in
    subst (λ n. length ns ≤ n) (sym (ap (λ q. length q) e ∙ length-append ns m)) (omega arith)

module _ (p : List ℕ → Bool) where
  -- an element passes exactly where the first that does has an index
  any_first : (ns : List (List ℕ)) → list_any p ns ≡ nat_lt (position_or_len p ns) (length ns)
  any_first [] = refl
  any_first (x ∷ ns) = any_more (p x) ns (any_first ns)
    where
      any_more : (b : Bool) (ns : List (List ℕ)) → list_any p ns ≡ nat_lt (position_or_len p ns) (length ns) → (b || list_any p ns) ≡ nat_lt (cond (not b) (1 + position_or_len p ns) 0) (suc (length ns))
      any_more true ns e = grind arith
      any_more false ns e = grind arith

  -- it has the same index in a list that goes on
  first_stays : (ns more : List (List ℕ)) → position_or_len p ns < length ns → position_or_len p (ns ++ more) ≡ position_or_len p ns
  first_stays [] more h = grind arith
  first_stays (x ∷ ns) more h = stays_more (p x) ns more h (first_stays ns more)
    where
      stays_more : (b : Bool) (ns more : List (List ℕ)) → cond (not b) (1 + position_or_len p ns) 0 < suc (length ns) → (position_or_len p ns < length ns → position_or_len p (ns ++ more) ≡ position_or_len p ns) → cond (not b) (1 + position_or_len p (ns ++ more)) 0 ≡ cond (not b) (1 + position_or_len p ns) 0
      stays_more true ns more h e = refl
      stays_more false ns more h e = ap (λ n. 1 + n) (e (omega arith))

  -- it is the end, where none before passes
  first_last : (ns : List (List ℕ)) (w : List ℕ) → p w ≡ true → list_any p ns ≡ false → position_or_len p (ns ++ w ∷ []) ≡ position_or_len p ns
  first_last [] w h e = rw h
  first_last (x ∷ ns) w h e = last_more (p x) ns w e (first_last ns w h)
    where
      last_more : (b : Bool) (ns : List (List ℕ)) (w : List ℕ) → (b || list_any p ns) ≡ false → (list_any p ns ≡ false → position_or_len p (ns ++ w ∷ []) ≡ position_or_len p ns) → cond (not b) (1 + position_or_len p (ns ++ w ∷ [])) 0 ≡ cond (not b) (1 + position_or_len p ns) 0
      last_more true ns w e f = refl
      last_more false ns w e f = ap (λ n. 1 + n) (f e)

  first_within : (ns : List (List ℕ)) → position_or_len p ns ≤ length ns
  first_within [] = omega arith
  first_within (x ∷ ns) = within_more (p x) ns (first_within ns)
    where
      within_more : (b : Bool) (ns : List (List ℕ)) → position_or_len p ns ≤ length ns → cond (not b) (1 + position_or_len p ns) 0 ≤ suc (length ns)
      within_more true ns e = omega arith
      within_more false ns e = omega arith

-- a spelling is listed exactly where its number is an index
pub listed_number : (ns : List (List ℕ)) (w : List ℕ) → list_any (bytes_eq w) ns ≡ nat_lt (number ns w) (length ns)
listed_number ns w = any_first (bytes_eq w) ns

bytes_same : (w : List ℕ) → bytes_eq w w ≡ true
bytes_same [] = refl
bytes_same (b ∷ w) = grind (arith, bytes_same w)

-- the number of a spelling that is listed now, or is listed next
pub number_with : (ns : List (List ℕ)) (w : List ℕ) → number (with_word ns w) w ≡ number ns w
number_with ns w = with_more (list_any (bytes_eq w) ns) refl
  where
    with_more : (b : Bool) → list_any (bytes_eq w) ns ≡ b → number (cond b ns (ns ++ w ∷ [])) w ≡ number ns w
    with_more true e = refl
    with_more false e = first_last (bytes_eq w) ns w (bytes_same w) e

pub number_listed : (ns : List (List ℕ)) (w : List ℕ) → number ns w < length (with_word ns w)
number_listed ns w = listed_more (list_any (bytes_eq w) ns) refl
  where
    listed_more : (b : Bool) → list_any (bytes_eq w) ns ≡ b → number ns w < length (cond b ns (ns ++ w ∷ []))
    listed_more true e = nat_lt-true (sym (listed_number ns w) ∙ e)
      where
        nat_lt-true : {a b : ℕ} → nat_lt a b ≡ true → a < b
        nat_lt-true h = grind arith
    listed_more false e = subst (λ n. number ns w < n) (sym (length-append ns (w ∷ []))) (lt_more (first_within (bytes_eq w) ns))
      where
        lt_more : {a b : ℕ} → a ≤ b → a < b + 1
        lt_more h = omega arith

-- it stays, whatever is listed later
pub number_stays : (ns more : List (List ℕ)) (w : List ℕ) → number ns w < length ns → number (ns ++ more) w ≡ number ns w
number_stays ns more w h = first_stays (bytes_eq w) ns more h

-- two tests that pass alike
same_test : (a b : Bool) → (a ≡ true → b ≡ true) → (b ≡ true → a ≡ true) → a ≡ b
same_test true b f g = sym (f refl)
same_test false true f g = g refl
same_test false false f g = refl

numbers_same : (a b : ℕ) → nat_eq a b ≡ true → a ≡ b
numbers_same a b h = grind arith

numbers_equal : (a b : ℕ) → a ≡ b → nat_eq a b ≡ true
numbers_equal a b h = grind arith

-- spellings are the same exactly where their packed numbers are
packed_same : (x w : List ℕ) → Spelling x → Spelling w → nat_eq (packed x) (packed w) ≡ bytes_eq w x
packed_same x w sx sw =
    same_test
    (nat_eq (packed x) (packed w))
    (bytes_eq w x)
    (λ h. (bytes_eq-Decides w x).1 (sym (packed_once x w sx sw (numbers_same (packed x) (packed w) h))))
    (λ h. numbers_equal (packed x) (packed w) (ap packed (sym ((bytes_eq-Decides w x).0 h))))

-- the number of a spelling is found by the packed spellings
pub number_packed : (ns : List (List ℕ)) (w : List ℕ) → All Spelling ns → Spelling w → position_or_len (λ n. nat_eq n (packed w)) (numbers_of ns) ≡ number ns w
number_packed [] w all sw = refl
number_packed (x ∷ ns) w all sw =
    ap₂
    (λ b n. cond (not b) (1 + n) 0)
    (packed_same x w (all 0 [] (omega arith)) sw)
    (number_packed ns w (λ k d h. all (suc k) d (omega (arith, h))) sw)

pub spellings_with : (ns : List (List ℕ)) (w : List ℕ) → All Spelling ns → Spelling w → All Spelling (with_word ns w)
spellings_with ns w all sw = with_more (list_any (bytes_eq w) ns)
  where
    one : All Spelling (w ∷ [])
    one zero d h = sw
    one (suc k) d h = absurd (not-suc-le-zero (le_of_suc-le-suc h))

    with_more : (b : Bool) → All Spelling (cond b ns (ns ++ w ∷ []))
    with_more true = all
    with_more false = All-append Spelling ns (w ∷ []) all one
