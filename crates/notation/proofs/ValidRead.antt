-- A table of recipes is valid exactly where the recipes are few and no place is too deep. Assumes nothing.
use Rattle.std.proofs.Common.{◌≡◌, ℕ, suc, ◌+◌, ◌≤◌, ◌<◌, Bool, true, false, cond, List, [], ◌∷◌, ◌++◌, length, take, get_or, Some, Option, ap, ap₂, sym, subst, ◌∙◌, length-append, arith}
use Rattle.std.proofs.lemmas.Option.{slice_get-get_or, slice_get_within, get_or_from_slice_get}
use Rattle.std.proofs.Math.Seq.{take-append_seam}
use Rattle.std.proofs.lemmas.List.{length-map}
use Rattle.std.proofs.lemmas.List.Elements.{All-weaker}
use Rattle.std.specs.Prelude.{All, bytes_eq}
use Rattle.std.specs.List.{slice_get, list_any}
use Rattle.recipe.specs.declared.places.Place.{Place}
use Rattle.recipe.specs.Tables.{Table, table_of}
use Rattle.recipe.specs.Validity.{Fits, Ordered, Valid}
use Rattle.recipe.proofs.Validation.{checked_valid, checked_needs}
use Rattle.notation.specs.Grammar.{Tree}
use Rattle.notation.specs.declared.counts.Counts.{Counts}
use Rattle.notation.specs.Reading.{ReadAs}
use Rattle.notation.specs.Fitting.{with_word, with_words}
use Rattle.notation.specs.Tables.{leaves_of, number, size, names, holes, leaves, rows_from, all_rows_from, of_each, names_of, holes_of, places_of}
use Rattle.notation.specs.ValidTables.{counts_of, Few, Shallow, ValidWhereFew, ReadTablesValid, CountedTablesValid}
use Rattle.notation.proofs.Placed.{rows_from_long}
use Rattle.notation.proofs.NumbersRead.{each_numbered, few_numbered, fits_all, low_names_all, enough_all}
use Rattle.notation.proofs.PartsRead.{held, rising_all}
use Rattle.notation.proofs.DepthsRead.{shallow_read}

-- each spelling adds one to a list of different spellings, or none
listed_few : (ws ns : List (List ℕ)) → length (with_words ns ws) ≤ length ns + length ws
unfolding with_words
listed_few [] ns = omega arith
listed_few (w ∷ ws) ns = let rest = listed_few ws (with_word ns w) in let one = one_more (list_any (bytes_eq w) ns) in omega (arith, rest, one)
  where
    one_more : (b : Bool) → length (cond b ns (ns ++ w ∷ [])) ≤ suc (length ns)
    one_more true = omega arith
    one_more false = omega (arith, length-append ns (w ∷ []))

-- a recipe has no more holes than places
holes_few : (t : Tree) → length (holes t) ≤ size t
unfolding holes size
holes_few Tree.nil = omega arith
holes_few (Tree.leaf w) = omega arith
holes_few (Tree.name w) = omega arith
holes_few (Tree.hole w) = omega arith
holes_few (Tree.bind w t) = omega (arith, holes_few t)
holes_few (Tree.call t u) = omega (arith, holes_few t, holes_few u, length-append (holes t) (holes u))

all_holes_few : (ns hs : List (List ℕ)) (ts : List Tree) (p l : ℕ) → length (of_each holes ts) ≤ length (all_rows_from ns hs p l ts)
unfolding of_each all_rows_from
all_holes_few ns hs [] p l = omega arith
all_holes_few ns hs (t ∷ ts) p l =
    let m : ℕ = p + size t in
    let k : ℕ = l + length (leaves t) in
    omega (arith, holes_few t, rows_from_long ns hs t p l, all_holes_few ns hs ts m k, length-append (holes t) (of_each holes ts), length-append (rows_from ns hs p l t) (all_rows_from ns hs m k ts))

module _ {L : Type 0} (ts : List Tree) (ls : List L) where
  abbrev T : Table L
  T = table_of (places_of ts) ls

  -- the different holes are no more than the places
  few_holes : length (holes_of ts) ≤ length (places_of ts)
  few_holes = omega (arith, listed_few (of_each holes ts) [], all_holes_few (names_of ts) (holes_of ts) ts 0 0)

  -- what holds of each record holds of the record at a place
  at_place : (P : Place → Type 0) (places : List Place) → All P places → (p : ℕ) (x : Place) → slice_get places p ≡ Some x → P x
  at_place P places all p x at = subst P (get_or_from_slice_get places p x x at) (all p x (slice_get_within places p x at))

  -- the table is ordered, where no place is too deep
  in_order : Shallow T → Ordered T
  in_order shallow =
      let all = rising_all (names_of ts) (holes_of ts) ts 0 0 in
      record {
        rising = λ p x i. let u = all.up p x (held ts ls p x i) in (u.0, omega (arith, u.1));
        once = λ p q x y i j e. all.once p q x y (held ts ls p x i) (held ts ls q y j) e;
        shallow = shallow;
      }

  -- few counts and low depths make a valid table
  few_valid : Few (counts_of ts) ls → Shallow T → Valid (places_of ts) ls
  few_valid few shallow =
      let low_names = All-weaker (λ w. number (names_of ts) w < length (names_of ts)) (λ w. number (names_of ts) w < 64) (λ w h. omega (arith, h, few.names)) (of_each names ts) (each_numbered (of_each names ts) []) in
      let low_holes = All-weaker (λ w. number (holes_of ts) w < length (holes_of ts)) (λ w. number (holes_of ts) w < 512) (λ w h. omega (arith, h, few_holes, few.places)) (of_each holes ts) (each_numbered (of_each holes ts) []) in
      record {
        few_places = few.places;
        few_leaves = few.leaves;
        fits = at_place (Fits (length ls)) (places_of ts) (fits_all (length ls) (names_of ts) (holes_of ts) ts 0 0 low_names low_holes (omega (arith, few.words)));
        ordered = in_order shallow;
      }

  -- a valid table has few counts
  valid_few : Valid (places_of ts) ls → Few (counts_of ts) ls
  valid_few valid =
      let all : All (Fits (length ls)) (places_of ts) = λ k d low. valid.fits k (get_or (places_of ts) k d) (slice_get-get_or (places_of ts) k d low) in
      record {
        places = valid.few_places;
        names = few_numbered 64 (of_each names ts) [] (omega arith) (low_names_all (length ls) (names_of ts) (holes_of ts) ts 0 0 all);
        leaves = valid.few_leaves;
        words = omega (arith, enough_all (length ls) (names_of ts) (holes_of ts) ts 0 0 all (omega arith));
      }

  -- both, with the answer of `check`
  read_valid : ValidWhereFew ts (counts_of ts) (places_of ts) ls
  read_valid = record {
    valid = (λ valid. (valid_few valid, valid.ordered.shallow), λ h. few_valid h.0 h.1);
    checks = λ few shallow. checked_needs (places_of ts) ls ((checked_valid (places_of ts) ls).1 (few_valid few shallow));
    shallow = shallow_read ts ls;
  }

-- the table of recipes
pub recipes_valid : {L : Type 0} → ReadTablesValid L
recipes_valid = read_valid

-- words that are read are as many as the leaves
read_long : {L : Type 0} (reads : List ℕ → Option L) (ws : List (List ℕ)) (ls : List L) → ReadAs reads ws ls → length ls ≡ length ws
read_long reads ws ls e = sym (length-map ls Some) ∙ ap (λ q. length q) (sym e) ∙ length-map ws reads

-- counts that are the same one by one
counts_same : (p q n m h k l j : ℕ) → p ≡ q → n ≡ m → h ≡ k → l ≡ j → ◌≡◌ {A = Counts} (record { places = p; names = n; holes = h; leaves = l }) (record { places = q; names = m; holes = k; leaves = j })
counts_same p q n m h k l j e f g i = cc

-- the places that a reading has filled
pub counted_valid : {L : Type 0} → CountedTablesValid L
counted_valid reads size s old new counts accepts ls =
    let ts = accepts.trees in
    let leaf_count = accepts.leaf_count ∙ read_long reads (leaves_of ts) accepts.read accepts.reads_as in
    let counted : counts_of ts ≡ counts = sym (counts_same _ _ _ _ _ _ _ _ accepts.place_count accepts.name_count accepts.hole_count leaf_count) in
    let places : places_of ts ≡ take counts.places new.places = sym (ap₂ (λ n q. take n q) accepts.place_count accepts.places ∙ take-append_seam (places_of ts) _) in
    subst (λ q. ValidWhereFew ts counts q ls) places (subst (λ c. ValidWhereFew ts c (places_of ts) ls) counted (recipes_valid ts ls))
