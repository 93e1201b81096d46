-- The roots of a table of recipes are the places of the recipes. Assumes nothing.
use Rattle.std.proofs.Common.{◌≡◌, ℕ, zero, suc, ◌+◌, ◌<◌, ◌≤◌, ◌⊎◌, inl, inr, ◌↔◌, List, [], ◌∷◌, ◌++◌, length, refl, sym, subst, zero-add, length-append, arith}
use Rattle.std.proofs.lemmas.Bool.{cases_order}
use Rattle.std.specs.Prelude.{slice_index}
use Rattle.std.specs.List.Sorted.{IsStrictlyIncreasing}
use Rattle.recipe.specs.declared.places.Place.{Place}
use Rattle.recipe.specs.Common.{In}
use Rattle.recipe.specs.Recipes.{Part, left, right, inside}
use Rattle.recipe.specs.Tables.{Root, table_of}
use Rattle.notation.specs.Grammar.{Tree}
use Rattle.notation.specs.Meaning.{roots_from, roots_of}
use Rattle.notation.specs.Tables.{row, number, size, leaves, rows_from, all_rows_from, names_of, holes_of, places_of}
use Rattle.notation.proofs.Placed.{rows_from_long}
use Rattle.notation.proofs.PartsRead.{Holds, holds_low, holds_append, holds_left, holds_right, at_holds, held, size_some, rising_rows, rising_all}

-- some record has the place q as a part, where the records stand from the place p on
abbrev HeldIn : ℕ → List Place → ℕ → Type 0
HeldIn p rs q = (s : ℕ) × (x : Part ℕ) × Holds p rs s x × (x.at ≡ q)

-- after a record
held_later : (p : ℕ) (r : Place) (rs : List Place) (q : ℕ) → HeldIn (suc p) rs q → HeldIn p (r ∷ rs) q
held_later p r rs q (s, x, h, e) = (s, x, inr h, e)

-- before other records
held_left : (p : ℕ) (rs ss : List Place) (q : ℕ) → HeldIn p rs q → HeldIn p (rs ++ ss) q
held_left p rs ss q (s, x, h, e) = (s, x, holds_left rs ss p s x h, e)

-- after other records
held_right : (p m : ℕ) (rs ss : List Place) (q : ℕ) → m ≡ p + length rs → HeldIn m ss q → HeldIn p (rs ++ ss) q
held_right p m rs ss q is (s, x, h, e) = (s, x, holds_right rs ss p m s x is h, e)

module _ (ns hs : List (List ℕ)) where
  -- of the places of a recipe each but the first is a part
  inner_held : (t : Tree) (p l q : ℕ) → p < q → q < p + size t → HeldIn p (rows_from ns hs p l t) q
  unfolding rows_from size
  inner_held Tree.nil p l q low high = absurd (omega arith)
  inner_held (Tree.leaf w) p l q low high = absurd (omega arith)
  inner_held (Tree.name w) p l q low high = absurd (omega arith)
  inner_held (Tree.hole w) p l q low high = absurd (omega arith)
  inner_held (Tree.bind w t) p l q low high = elim (cases_order (suc p) q) [
    | inl e ↦ (p, inside (number ns w) (suc p), inl (refl, inl refl), e)
    | inr (inl less) ↦ held_later p (row 4 (number ns w) (suc p)) (rows_from ns hs (suc p) l t) q (inner_held t (suc p) l q less (omega arith))
    | inr (inr more) ↦ absurd (omega arith)
  ]
  inner_held (Tree.call t u) p l q low high =
      let m : ℕ = suc p + size t in
      let k : ℕ = l + length (leaves t) in
      let rs : List Place = rows_from ns hs (suc p) l t in
      let ss : List Place = rows_from ns hs m k u in
      let is : m ≡ suc p + length rs = subst (λ n. m ≡ suc p + n) (sym (rows_from_long ns hs t (suc p) l)) refl in
      elim (cases_order (suc p) q) [
        | inl e ↦ (p, left (suc p), inl (refl, inl refl), e)
        | inr (inl less) ↦ elim (cases_order m q) [
          | inl e ↦ (p, right m, inl (refl, inr (inl refl)), e)
          | inr (inl after) ↦ held_later p (row 5 (suc p) m) (rs ++ ss) q (held_right (suc p) m rs ss q is (inner_held u m k q after (omega arith)))
          | inr (inr before) ↦ held_later p (row 5 (suc p) m) (rs ++ ss) q (held_left (suc p) rs ss q (inner_held t (suc p) l q less before))
        ]
        | inr (inr more) ↦ absurd (omega arith)
      ]

  -- a place is that of one of the recipes, or a part
  root_or_held : (ts : List Tree) (p l q : ℕ) → p ≤ q → q < p + length (all_rows_from ns hs p l ts) → In q (roots_from p ts) ⊎ HeldIn p (all_rows_from ns hs p l ts) q
  unfolding all_rows_from roots_from
  root_or_held [] p l q low high = absurd (omega arith)
  root_or_held (t ∷ ts) p l q low high =
      let m : ℕ = p + size t in
      let k : ℕ = l + length (leaves t) in
      let rs : List Place = rows_from ns hs p l t in
      let ss : List Place = all_rows_from ns hs m k ts in
      let rs_long : length rs ≡ size t = rows_from_long ns hs t p l in
      let long : length (rs ++ ss) ≡ length rs + length ss = length-append rs ss in
      let is : m ≡ p + length rs = omega (arith, rs_long) in
      let later : m ≤ q → In q (p ∷ roots_from m ts) ⊎ HeldIn p (rs ++ ss) q = λ h.
      elim (root_or_held ts m k q h (omega (arith, high, long, rs_long))) [
        | inl i ↦ inl (inr i)
        | inr j ↦ inr (held_right p m rs ss q is j)
      ] in
      elim (cases_order p q) [
        | inl e ↦ inl (inl (sym e))
        | inr (inl less) ↦ elim (cases_order q m) [
          | inl e ↦ later (omega arith)
          | inr (inl before) ↦ inr (held_left p rs ss q (inner_held t p l q less before))
          | inr (inr after) ↦ later (omega arith)
        ]
        | inr (inr more) ↦ absurd (omega arith)
      ]

  -- the place of a recipe is one of the places
  root_within : (ts : List Tree) (p l q : ℕ) → In q (roots_from p ts) → (p ≤ q) × (q < p + length (all_rows_from ns hs p l ts))
  unfolding all_rows_from roots_from
  root_within [] p l q i = absurd i
  root_within (t ∷ ts) p l q i =
      let m : ℕ = p + size t in
      let k : ℕ = l + length (leaves t) in
      let rs_long = rows_from_long ns hs t p l in
      let long = length-append (rows_from ns hs p l t) (all_rows_from ns hs m k ts) in
      elim i [
        | inl e ↦ (omega (arith, e), omega (arith, e, size_some t, rs_long, long))
        | inr j ↦ let within = root_within ts m k q j in (omega (arith, within.0), omega (arith, within.1, rs_long, long))
      ]

  -- and no part
  root_free : (ts : List Tree) (p l q : ℕ) → In q (roots_from p ts) → (s : ℕ) (x : Part ℕ) → Holds p (all_rows_from ns hs p l ts) s x → x.at ≡ q → ⊥
  unfolding all_rows_from roots_from
  root_free [] p l q i s x h e = i
  root_free (t ∷ ts) p l q (inl is) s x h e =
      omega (arith, is, e, (rising_all ns hs (t ∷ ts) p l).up s x h, holds_low (all_rows_from ns hs p l (t ∷ ts)) p s x h)
  root_free (t ∷ ts) p l q (inr j) s x h e =
      let m : ℕ = p + size t in
      let k : ℕ = l + length (leaves t) in
      let rs : List Place = rows_from ns hs p l t in
      let ss : List Place = all_rows_from ns hs m k ts in
      let is : p + length rs ≡ m = omega (arith, rows_from_long ns hs t p l) in
      elim (holds_append rs ss p s x h) [
        | inl i ↦ omega (arith, is, e, (rising_rows ns hs t p l).up s x i, (root_within ts m k q j).0)
        | inr i ↦ root_free ts m k q j s x (subst (λ n. Holds n ss s x) is i) e
      ]

-- the roots of the table of recipes
pub roots_read : {L : Type 0} (ts : List Tree) (ls : List L) (p : ℕ) → Root (table_of (places_of ts) ls) p ↔ In p (roots_of ts)
roots_read ts ls p = (root, place)
  where
    root : Root (table_of (places_of ts) ls) p → In p (roots_of ts)
    root (within, free) = elim (root_or_held (names_of ts) (holes_of ts) ts 0 0 p (omega arith) (omega (arith, within))) [
      | inl i ↦ i
      | inr (s, x, h, e) ↦ absurd (free s x (at_holds ls (places_of ts) 0 s s x (sym (zero-add s)) h) e)
    ]

    place : In p (roots_of ts) → Root (table_of (places_of ts) ls) p
    place i = (
      omega (arith, (root_within (names_of ts) (holes_of ts) ts 0 0 p i).1),
      λ q x j e. root_free (names_of ts) (holes_of ts) ts 0 0 p i q x (held ts ls q x j) e,
    )

-- each recipe has a higher place than those before it
next_higher : (ts : List Tree) (p k : ℕ) → suc k < length (roots_from p ts) → slice_index (roots_from p ts) k < slice_index (roots_from p ts) (suc k)
unfolding roots_from
next_higher [] p k within = absurd (omega arith)
next_higher (t ∷ []) p k within = absurd (omega arith)
next_higher (t ∷ u ∷ ts) p zero within = omega (arith, size_some t)
next_higher (t ∷ u ∷ ts) p (suc k) within = next_higher (u ∷ ts) (p + size t) k (omega arith)

pub roots_rise : (ts : List Tree) → IsStrictlyIncreasing (roots_of ts)
roots_rise ts k within =
    subst (λ n. slice_index (roots_of ts) k < slice_index (roots_of ts) n) (next k) (next_higher ts 0 k (omega (arith, within)))
  where
    next : (n : ℕ) → suc n ≡ n + 1
    next n = omega arith
