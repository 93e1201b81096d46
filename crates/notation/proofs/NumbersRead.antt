-- The numbers in a table of recipes fit exactly where the recipes have few enough different names and holes, and a leaf for each leaf word. Assumes nothing.
use Rattle.std.proofs.Common.{◌≡◌, ℕ, suc, ◌+◌, ◌<◌, ◌≤◌, Bool, true, false, cond, List, [], ◌∷◌, ◌++◌, length, refl, ap, sym, subst, ◌∙◌, length-append, arith}
use Rattle.std.proofs.lemmas.List.{get_or_append_left, get_or-append-add}
use Rattle.std.proofs.lemmas.List.Elements.{All-nil, All-cons, All-head, All-tail, All-append}
use Rattle.std.specs.Prelude.{All, bytes_eq, nat_lt}
use Rattle.std.specs.List.{list_any}
use Rattle.recipe.specs.declared.places.Place.{Place}
use Rattle.recipe.specs.Validity.{Fits}
use Rattle.notation.specs.Grammar.{Tree}
use Rattle.notation.specs.Fitting.{with_word, with_words}
use Rattle.notation.specs.Tables.{row, number, size, names, holes, leaves, rows_from, all_rows_from, of_each}
use Rattle.notation.proofs.Listed.{with_words_grows, with_words_long, listed_number, number_with, number_listed, number_stays}

-- what holds of each element of two lists, list by list
parted : {X : Type 0} (P : X → Type 0) (xs ys : List X) → All P (xs ++ ys) → All P xs × All P ys
parted P xs ys h = (
  λ k d low. subst P (get_or_append_left xs ys d k low) (h k d (omega (arith, low, length-append xs ys))),
  λ k d low. subst P (get_or-append-add xs ys k d) (h (length xs + k) d (omega (arith, low, length-append xs ys))),
)

-- a spelling has the same number, whatever is listed later
number_kept : (ns ws : List (List ℕ)) (w : List ℕ) → number (with_words (with_word ns w) ws) w ≡ number ns w
number_kept ns ws w =
    let (more, e) = with_words_grows (with_word ns w) ws in
    ap (λ q. number q w) e ∙ number_stays (with_word ns w) more w (subst (λ n. n < length (with_word ns w)) (sym (number_with ns w)) (number_listed ns w)) ∙ number_with ns w

-- each of the spellings that are listed has a number below their count
pub each_numbered : (ws ns : List (List ℕ)) → All (λ w. number (with_words ns ws) w < length (with_words ns ws)) ws
unfolding with_words
each_numbered [] ns = All-nil _
each_numbered (w ∷ ws) ns =
    let all : List (List ℕ) = with_words (with_word ns w) ws in
    All-cons (λ v. number all v < length all) w ws
    (subst (λ n. n < length all) (sym (number_kept ns ws w)) (omega (arith, number_listed ns w, with_words_long (with_word ns w) ws)))
    (each_numbered ws (with_word ns w))

-- one spelling more is not too many, where its number is low
one_few : (most : ℕ) (ns : List (List ℕ)) (w : List ℕ) → length ns ≤ most → number ns w < most → length (with_word ns w) ≤ most
one_few most ns w few low = one_more (list_any (bytes_eq w) ns) (listed_number ns w)
  where
    not_below : (a b : ℕ) → false ≡ nat_lt a b → b ≤ a
    not_below a b h = grind arith

    one_more : (b : Bool) → b ≡ nat_lt (number ns w) (length ns) → length (cond b ns (ns ++ w ∷ [])) ≤ most
    one_more true e = few
    one_more false e = let high = not_below (number ns w) (length ns) e in omega (arith, high, low, length-append ns (w ∷ []))

-- spellings are not too many, where each has a low number
pub few_numbered : (most : ℕ) (ws ns : List (List ℕ)) → length ns ≤ most → All (λ w. number (with_words ns ws) w < most) ws → length (with_words ns ws) ≤ most
unfolding with_words
few_numbered most [] ns few low = few
few_numbered most (w ∷ ws) ns few low =
    let all : List (List ℕ) = with_words (with_word ns w) ws in
    few_numbered most ws (with_word ns w)
    (one_few most ns w few (subst (λ n. n < most) (number_kept ns ws w) (All-head (λ v. number all v < most) w ws low)))
    (All-tail (λ v. number all v < most) w ws low)

-- records that fit
module _ (many : ℕ) where
  fits_nil : Fits many (row 0 0 0)
  fits_nil = record { kinds = omega arith; leaves = λ h. omega (arith, h); names = λ h. omega (arith, h); holes = λ h. omega (arith, h); binders = λ h. omega (arith, h); unused_a = λ h. refl; unused_b = λ h. refl }

  fits_leaf : (l : ℕ) → l < many → Fits many (row 1 l 0)
  fits_leaf l low = record { kinds = omega arith; leaves = λ h. low; names = λ h. omega (arith, h); holes = λ h. omega (arith, h); binders = λ h. omega (arith, h); unused_a = λ h. omega (arith, h); unused_b = λ h. refl }

  fits_name : (n : ℕ) → n < 64 → Fits many (row 2 n 0)
  fits_name n low = record { kinds = omega arith; leaves = λ h. omega (arith, h); names = λ h. low; holes = λ h. omega (arith, h); binders = λ h. omega (arith, h); unused_a = λ h. omega (arith, h); unused_b = λ h. refl }

  fits_hole : (n : ℕ) → n < 512 → Fits many (row 3 n 0)
  fits_hole n low = record { kinds = omega arith; leaves = λ h. omega (arith, h); names = λ h. omega (arith, h); holes = λ h. low; binders = λ h. omega (arith, h); unused_a = λ h. omega (arith, h); unused_b = λ h. refl }

  fits_bind : (n c : ℕ) → n < 64 → Fits many (row 4 n c)
  fits_bind n c low = record { kinds = omega arith; leaves = λ h. omega (arith, h); names = λ h. omega (arith, h); holes = λ h. omega (arith, h); binders = λ h. low; unused_a = λ h. omega (arith, h); unused_b = λ h. omega (arith, h) }

  fits_call : (c d : ℕ) → Fits many (row 5 c d)
  fits_call c d = record { kinds = omega arith; leaves = λ h. omega (arith, h); names = λ h. omega (arith, h); holes = λ h. omega (arith, h); binders = λ h. omega (arith, h); unused_a = λ h. omega (arith, h); unused_b = λ h. omega (arith, h) }

module _ (many : ℕ) (ns hs : List (List ℕ)) where
  -- a name has a low number
  abbrev pub LowName : List ℕ → Type 0
  LowName w = number ns w < 64

  -- a hole has a low number
  abbrev pub LowHole : List ℕ → Type 0
  LowHole w = number hs w < 512

  -- the records of a recipe fit
  fits_rows : (t : Tree) (p l : ℕ) → All LowName (names t) → All LowHole (holes t) → l + length (leaves t) ≤ many → All (Fits many) (rows_from ns hs p l t)
  unfolding rows_from names holes leaves
  fits_rows Tree.nil p l low_names low_holes enough = All-cons (Fits many) _ [] (fits_nil many) (All-nil (Fits many))
  fits_rows (Tree.leaf w) p l low_names low_holes enough = All-cons (Fits many) _ [] (fits_leaf many l (omega (arith, enough))) (All-nil (Fits many))
  fits_rows (Tree.name w) p l low_names low_holes enough =
      All-cons (Fits many) _ [] (fits_name many (number ns w) (All-head LowName w [] low_names)) (All-nil (Fits many))
  fits_rows (Tree.hole w) p l low_names low_holes enough =
      All-cons (Fits many) _ [] (fits_hole many (number hs w) (All-head LowHole w [] low_holes)) (All-nil (Fits many))
  fits_rows (Tree.bind w t) p l low_names low_holes enough =
      All-cons (Fits many) _ (rows_from ns hs (suc p) l t)
      (fits_bind many (number ns w) (suc p) (All-head LowName w (names t) low_names))
      (fits_rows t (suc p) l (All-tail LowName w (names t) low_names) low_holes enough)
  fits_rows (Tree.call t u) p l low_names low_holes enough =
      let (left_names, right_names) = parted LowName (names t) (names u) low_names in
      let (left_holes, right_holes) = parted LowHole (holes t) (holes u) low_holes in
      let long = length-append (leaves t) (leaves u) in
      let m : ℕ = suc p + size t in
      let k : ℕ = l + length (leaves t) in
      All-cons (Fits many) _ (rows_from ns hs (suc p) l t ++ rows_from ns hs m k u)
      (fits_call many (suc p) m)
      (All-append (Fits many) (rows_from ns hs (suc p) l t) (rows_from ns hs m k u)
      (fits_rows t (suc p) l left_names left_holes (omega (arith, enough, long)))
      (fits_rows u m k right_names right_holes (omega (arith, enough, long))))

  -- the records of recipes fit
  pub fits_all : (ts : List Tree) (p l : ℕ) → All LowName (of_each names ts) → All LowHole (of_each holes ts) → l + length (of_each leaves ts) ≤ many → All (Fits many) (all_rows_from ns hs p l ts)
  unfolding all_rows_from of_each
  fits_all [] p l low_names low_holes enough = All-nil (Fits many)
  fits_all (t ∷ ts) p l low_names low_holes enough =
      let (left_names, right_names) = parted LowName (names t) (of_each names ts) low_names in
      let (left_holes, right_holes) = parted LowHole (holes t) (of_each holes ts) low_holes in
      let long = length-append (leaves t) (of_each leaves ts) in
      let m : ℕ = p + size t in
      let k : ℕ = l + length (leaves t) in
      All-append (Fits many) (rows_from ns hs p l t) (all_rows_from ns hs m k ts)
      (fits_rows t p l left_names left_holes (omega (arith, enough, long)))
      (fits_all ts m k right_names right_holes (omega (arith, enough, long)))

  -- where the records of a recipe fit, its names have low numbers
  low_names_rows : (t : Tree) (p l : ℕ) → All (Fits many) (rows_from ns hs p l t) → All LowName (names t)
  unfolding rows_from names
  low_names_rows Tree.nil p l fit = All-nil LowName
  low_names_rows (Tree.leaf w) p l fit = All-nil LowName
  low_names_rows (Tree.name w) p l fit = All-cons LowName w [] ((All-head (Fits many) (row 2 (number ns w) 0) [] fit).names refl) (All-nil LowName)
  low_names_rows (Tree.hole w) p l fit = All-nil LowName
  low_names_rows (Tree.bind w t) p l fit =
      let x : Place = row 4 (number ns w) (suc p) in
      let xs : List Place = rows_from ns hs (suc p) l t in
      All-cons LowName w (names t) ((All-head (Fits many) x xs fit).binders refl) (low_names_rows t (suc p) l (All-tail (Fits many) x xs fit))
  low_names_rows (Tree.call t u) p l fit =
      let xs : List Place = rows_from ns hs (suc p) l t in
      let ys : List Place = rows_from ns hs (suc p + size t) (l + length (leaves t)) u in
      let (left, right) = parted (Fits many) xs ys (All-tail (Fits many) (row 5 (suc p) (suc p + size t)) (xs ++ ys) fit) in
      All-append LowName (names t) (names u) (low_names_rows t (suc p) l left) (low_names_rows u (suc p + size t) (l + length (leaves t)) right)

  -- and each of its leaf words has a leaf
  enough_rows : (t : Tree) (p l : ℕ) → All (Fits many) (rows_from ns hs p l t) → l ≤ many → l + length (leaves t) ≤ many
  unfolding rows_from leaves
  enough_rows Tree.nil p l fit so_far = omega arith
  enough_rows (Tree.leaf w) p l fit so_far = omega (arith, (All-head (Fits many) (row 1 l 0) [] fit).leaves refl)
  enough_rows (Tree.name w) p l fit so_far = omega arith
  enough_rows (Tree.hole w) p l fit so_far = omega arith
  enough_rows (Tree.bind w t) p l fit so_far =
      enough_rows t (suc p) l (All-tail (Fits many) (row 4 (number ns w) (suc p)) (rows_from ns hs (suc p) l t) fit) so_far
  enough_rows (Tree.call t u) p l fit so_far =
      let xs : List Place = rows_from ns hs (suc p) l t in
      let ys : List Place = rows_from ns hs (suc p + size t) (l + length (leaves t)) u in
      let (left, right) = parted (Fits many) xs ys (All-tail (Fits many) (row 5 (suc p) (suc p + size t)) (xs ++ ys) fit) in
      let first = enough_rows t (suc p) l left so_far in
      let second = enough_rows u (suc p + size t) (l + length (leaves t)) right first in
      omega (arith, second, length-append (leaves t) (leaves u))

  -- the same of recipes
  pub low_names_all : (ts : List Tree) (p l : ℕ) → All (Fits many) (all_rows_from ns hs p l ts) → All LowName (of_each names ts)
  unfolding all_rows_from of_each
  low_names_all [] p l fit = All-nil LowName
  low_names_all (t ∷ ts) p l fit =
      let (left, right) = parted (Fits many) (rows_from ns hs p l t) (all_rows_from ns hs (p + size t) (l + length (leaves t)) ts) fit in
      All-append LowName (names t) (of_each names ts) (low_names_rows t p l left) (low_names_all ts (p + size t) (l + length (leaves t)) right)

  pub enough_all : (ts : List Tree) (p l : ℕ) → All (Fits many) (all_rows_from ns hs p l ts) → l ≤ many → l + length (of_each leaves ts) ≤ many
  unfolding all_rows_from of_each
  enough_all [] p l fit so_far = omega arith
  enough_all (t ∷ ts) p l fit so_far =
      let (left, right) = parted (Fits many) (rows_from ns hs p l t) (all_rows_from ns hs (p + size t) (l + length (leaves t)) ts) fit in
      let first = enough_rows t p l left so_far in
      let second = enough_all ts (p + size t) (l + length (leaves t)) right first in
      omega (arith, second, length-append (leaves t) (of_each leaves ts))
