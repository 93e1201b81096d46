-- The parts of a table of recipes: they are higher places of it, and no place is held twice. Assumes nothing.
use Rattle.std.proofs.Common.{◌≡◌, ℕ, zero, suc, ◌+◌, ◌<◌, ◌≤◌, ◌⊎◌, inl, inr, List, [], ◌∷◌, ◌++◌, length, refl, ap, sym, subst, ◌∙◌, zero-add, length-append, arith}
use Rattle.std.specs.List.{slice_get}
use Rattle.recipe.specs.declared.places.Place.{Place}
use Rattle.recipe.specs.Common.{In}
use Rattle.recipe.specs.Marks.{parts_of}
use Rattle.recipe.specs.Recipes.{Part}
use Rattle.recipe.specs.Tables.{form_at, parts, table_of}
use Rattle.recipe.proofs.Marking.{parts_of_form}
use Rattle.notation.specs.Grammar.{Tree}
use Rattle.notation.specs.Tables.{row, size, leaves, rows_from, all_rows_from, places_of}
use Rattle.notation.proofs.Placed.{rows_from_long}

-- the place q has the part x, where the records stand from the place p on
abbrev pub Holds : ℕ → List Place → ℕ → Part ℕ → Type 0
Holds p [] q x = ⊥
Holds p (r ∷ rs) q x = ((q ≡ p) × In x (parts_of r)) ⊎ Holds (suc p) rs q x

-- records have parts from their first place on
pub holds_low : (rs : List Place) (p q : ℕ) (x : Part ℕ) → Holds p rs q x → p ≤ q
holds_low [] p q x h = absurd h
holds_low (r ∷ rs) p q x (inl h) = omega (arith, h.0)
holds_low (r ∷ rs) p q x (inr h) = omega (arith, holds_low rs (suc p) q x h)

-- the sum of a successor
add_next : (p n : ℕ) → suc p + n ≡ p + suc n
add_next p n = omega arith

-- what has a part is among the first records or among the rest
pub holds_append : (rs ss : List Place) (p q : ℕ) (x : Part ℕ) → Holds p (rs ++ ss) q x → Holds p rs q x ⊎ Holds (p + length rs) ss q x
holds_append [] ss p q x h = inr (subst (λ n. Holds n ss q x) (add_none p) h)
  where
    add_none : (a : ℕ) → a ≡ a + 0
    add_none a = omega arith
holds_append (r ∷ rs) ss p q x (inl h) = inl (inl h)
holds_append (r ∷ rs) ss p q x (inr h) =
    elim (holds_append rs ss (suc p) q x h) [ inl a ↦ inl (inr a) | inr b ↦ inr (subst (λ n. Holds n ss q x) (add_next p (length rs)) b) ]

-- and what is among either has a part
pub holds_left : (rs ss : List Place) (p q : ℕ) (x : Part ℕ) → Holds p rs q x → Holds p (rs ++ ss) q x
holds_left [] ss p q x h = absurd h
holds_left (r ∷ rs) ss p q x (inl h) = inl h
holds_left (r ∷ rs) ss p q x (inr h) = inr (holds_left rs ss (suc p) q x h)

pub holds_right : (rs ss : List Place) (p m q : ℕ) (x : Part ℕ) → m ≡ p + length rs → Holds m ss q x → Holds p (rs ++ ss) q x
holds_right [] ss p m q x e h = subst (λ n. Holds n ss q x) (omega (arith, e)) h
holds_right (r ∷ rs) ss p m q x e h = inr (holds_right rs ss (suc p) m q x (omega (arith, e)) h)

-- a part of the form at a place
pub holds_at : {L : Type 0} (ls : List L) (rs : List Place) (p q : ℕ) (x : Part ℕ) → In x (parts (form_at ls (slice_get rs q))) → Holds p rs (p + q) x
holds_at ls [] p q x i = absurd i
holds_at ls (r ∷ rs) p zero x i = inl (add-none p, subst (λ xs. In x xs) (parts_of_form ls r) i)
  where
    add-none : (a : ℕ) → a + 0 ≡ a
    add-none a = omega arith
holds_at ls (r ∷ rs) p (suc q) x i = inr (subst (λ n. Holds (suc p) rs n x) (add_next p q) (holds_at ls rs (suc p) q x i))

-- and the other way round
pub at_holds : {L : Type 0} (ls : List L) (rs : List Place) (p q s : ℕ) (x : Part ℕ) → s ≡ p + q → Holds p rs s x → In x (parts (form_at ls (slice_get rs q)))
at_holds ls [] p q s x e h = h
at_holds ls (r ∷ rs) p zero s x e (inl h) = subst (λ xs. In x xs) (sym (parts_of_form ls r)) h.1
at_holds ls (r ∷ rs) p zero s x e (inr h) = absurd (omega (arith, e, holds_low rs (suc p) s x h))
at_holds ls (r ∷ rs) p (suc q) s x e (inl h) = absurd (omega (arith, e, h.0))
at_holds ls (r ∷ rs) p (suc q) s x e (inr h) = at_holds ls rs (suc p) q s x (omega (arith, e)) h

-- the parts of the records from p on are higher places, before their end, and none is held twice
pub record Rising (p : ℕ) (rs : List Place) : Type 0 where
  pub up : (q : ℕ) (x : Part ℕ) → Holds p rs q x → (q < x.at) × (x.at < p + length rs)
  pub once : (q s : ℕ) (x y : Part ℕ) → Holds p rs q x → Holds p rs s y → x.at ≡ y.at → (q ≡ s) × (x ≡ y)

-- no records
rising_none : (p : ℕ) → Rising p []
rising_none p = record { up = λ q x h. absurd h; once = λ q s x y h k e. absurd h }

-- records, and then others
rising_append : (p : ℕ) (rs ss : List Place) → Rising p rs → Rising (p + length rs) ss → Rising p (rs ++ ss)
rising_append p rs ss a b = record {
  up = λ q x h.
      let long = length-append rs ss in
      elim (holds_append rs ss p q x h) [
        | inl i ↦ let u = a.up q x i in (u.0, omega (arith, u.1, long))
        | inr i ↦ let u = b.up q x i in (u.0, omega (arith, u.1, long))
      ];
  once = λ q s x y h k e.
      elim (holds_append rs ss p q x h) [
        | inl i ↦ elim (holds_append rs ss p s y k) [
          | inl j ↦ a.once q s x y i j e
          | inr j ↦ absurd (apart q s x y i j e)
        ]
        | inr i ↦ elim (holds_append rs ss p s y k) [
          | inl j ↦ absurd (apart s q y x j i (sym e))
          | inr j ↦ b.once q s x y i j e
        ]
      ];
}
  where
    apart : (q s : ℕ) (x y : Part ℕ) → Holds p rs q x → Holds (p + length rs) ss s y → x.at ≡ y.at → ⊥
    apart q s x y h k e = omega (arith, (a.up q x h).1, (b.up s y k).0, holds_low ss (p + length rs) s y k, e)

-- a record before others
rising_more : (p : ℕ) (r : Place) (rs : List Place) → ((x : Part ℕ) → In x (parts_of r) → (p < x.at) × (x.at < p + suc (length rs))) → ((x y : Part ℕ) → In x (parts_of r) → In y (parts_of r) → x.at ≡ y.at → x ≡ y) → ((x y : Part ℕ) (q : ℕ) → In x (parts_of r) → Holds (suc p) rs q y → x.at ≡ y.at → ⊥) → Rising (suc p) rs → Rising p (r ∷ rs)
rising_more p r rs within one apart a = record { up = up; once = once }
  where
    up : (q : ℕ) (x : Part ℕ) → Holds p (r ∷ rs) q x → (q < x.at) × (x.at < p + suc (length rs))
    up q x (inl h) = let u = within x h.1 in (omega (arith, h.0, u.0), u.1)
    up q x (inr h) = let u = a.up q x h in (u.0, omega (arith, u.1))

    once : (q s : ℕ) (x y : Part ℕ) → Holds p (r ∷ rs) q x → Holds p (r ∷ rs) s y → x.at ≡ y.at → (q ≡ s) × (x ≡ y)
    once q s x y (inl h) (inl k) e = (h.0 ∙ sym k.0, one x y h.1 k.1 e)
    once q s x y (inl h) (inr k) e = absurd (apart x y s h.1 k e)
    once q s x y (inr h) (inl k) e = absurd (apart y x q k.1 h (sym e))
    once q s x y (inr h) (inr k) e = a.once q s x y h k e

-- a record without parts
rising_one : (p : ℕ) (r : Place) → parts_of r ≡ [] → Rising p (r ∷ [])
rising_one p r e =
    rising_more p r []
    (λ x i. absurd (subst (λ xs. In x xs) e i))
    (λ x y i j f. absurd (subst (λ xs. In x xs) e i))
    (λ x y q i h f. h)
    (rising_none (suc p))

-- a bind before its inside
rising_bind : (p n : ℕ) (rs : List Place) → 0 < length rs → Rising (suc p) rs → Rising p (row 4 n (suc p) ∷ rs)
rising_bind p n rs some a = rising_more p (row 4 n (suc p)) rs within one apart a
  where
    within : (x : Part ℕ) → In x (parts_of (row 4 n (suc p))) → (p < x.at) × (x.at < p + suc (length rs))
    within x (inl e) = let at = ap (λ z. z.at) e in (omega (arith, at), omega (arith, at, some))
    within x (inr i) = absurd i

    one : (x y : Part ℕ) → In x (parts_of (row 4 n (suc p))) → In y (parts_of (row 4 n (suc p))) → x.at ≡ y.at → x ≡ y
    one x y (inl e) (inl f) g = e ∙ sym f
    one x y (inl e) (inr j) g = absurd j
    one x y (inr i) j g = absurd i

    apart : (x y : Part ℕ) (q : ℕ) → In x (parts_of (row 4 n (suc p))) → Holds (suc p) rs q y → x.at ≡ y.at → ⊥
    apart x y q (inl e) h g = omega (arith, ap (λ z. z.at) e, (a.up q y h).0, holds_low rs (suc p) q y h, g)
    apart x y q (inr i) h g = i

-- a call before its parts
rising_call : (p m : ℕ) (rs ss : List Place) → 0 < length rs → 0 < length ss → m ≡ suc p + length rs → Rising (suc p) rs → Rising m ss → Rising p (row 5 (suc p) m ∷ (rs ++ ss))
rising_call p m rs ss some more is a b =
    rising_more p (row 5 (suc p) m) (rs ++ ss) within one apart (rising_append (suc p) rs ss a (subst (λ n. Rising n ss) is b))
  where
    within : (x : Part ℕ) → In x (parts_of (row 5 (suc p) m)) → (p < x.at) × (x.at < p + suc (length (rs ++ ss)))
    within x (inl e) = let at = ap (λ z. z.at) e in (omega (arith, at), omega (arith, at, some, length-append rs ss))
    within x (inr (inl e)) = let at = ap (λ z. z.at) e in (omega (arith, at, is), omega (arith, at, more, is, length-append rs ss))
    within x (inr (inr i)) = absurd i

    one : (x y : Part ℕ) → In x (parts_of (row 5 (suc p) m)) → In y (parts_of (row 5 (suc p) m)) → x.at ≡ y.at → x ≡ y
    one x y (inl e) (inl f) g = e ∙ sym f
    one x y (inl e) (inr (inl f)) g = absurd (omega (arith, ap (λ z. z.at) e, ap (λ z. z.at) f, g, is, some))
    one x y (inr (inl e)) (inl f) g = absurd (omega (arith, ap (λ z. z.at) e, ap (λ z. z.at) f, g, is, some))
    one x y (inr (inl e)) (inr (inl f)) g = e ∙ sym f
    one x y (inl e) (inr (inr j)) g = absurd j
    one x y (inr (inl e)) (inr (inr j)) g = absurd j
    one x y (inr (inr i)) j g = absurd i

    apart : (x y : Part ℕ) (q : ℕ) → In x (parts_of (row 5 (suc p) m)) → Holds (suc p) (rs ++ ss) q y → x.at ≡ y.at → ⊥
    apart x y q i h g =
        elim (holds_append rs ss (suc p) q y h) [
          | inl k ↦ left x y q i k g
          | inr k ↦ right x y q i k g
        ]
      where
        left : (x y : Part ℕ) (q : ℕ) → In x (parts_of (row 5 (suc p) m)) → Holds (suc p) rs q y → x.at ≡ y.at → ⊥
        left x y q (inl e) h g = omega (arith, ap (λ z. z.at) e, (a.up q y h).0, holds_low rs (suc p) q y h, g)
        left x y q (inr (inl e)) h g = omega (arith, ap (λ z. z.at) e, (a.up q y h).1, is, g)
        left x y q (inr (inr i)) h g = i

        last : (x y : Part ℕ) (q : ℕ) → In x (parts_of (row 5 (suc p) m)) → Holds m ss q y → x.at ≡ y.at → ⊥
        last x y q (inl e) h g = omega (arith, ap (λ z. z.at) e, (b.up q y h).0, holds_low ss m q y h, is, g)
        last x y q (inr (inl e)) h g = omega (arith, ap (λ z. z.at) e, (b.up q y h).0, holds_low ss m q y h, g)
        last x y q (inr (inr i)) h g = i

        right : (x y : Part ℕ) (q : ℕ) → In x (parts_of (row 5 (suc p) m)) → Holds (suc p + length rs) ss q y → x.at ≡ y.at → ⊥
        right x y q i h g = last x y q i (subst (λ n. Holds n ss q y) (sym is) h) g

-- a recipe has a place
pub size_some : (t : Tree) → 0 < size t
unfolding size
size_some Tree.nil = omega arith
size_some (Tree.leaf w) = omega arith
size_some (Tree.name w) = omega arith
size_some (Tree.hole w) = omega arith
size_some (Tree.bind w t) = omega arith
size_some (Tree.call t u) = omega arith

module _ (ns hs : List (List ℕ)) where
  rows_some : (t : Tree) (p l : ℕ) → 0 < length (rows_from ns hs p l t)
  rows_some t p l = subst (λ n. 0 < n) (sym (rows_from_long ns hs t p l)) (size_some t)

  -- the records of a recipe
  pub rising_rows : (t : Tree) (p l : ℕ) → Rising p (rows_from ns hs p l t)
  unfolding rows_from
  rising_rows Tree.nil p l = rising_one p (row 0 0 0) refl
  rising_rows (Tree.leaf w) p l = rising_one p (row 1 l 0) refl
  rising_rows (Tree.name w) p l = rising_one p (row 2 _ 0) refl
  rising_rows (Tree.hole w) p l = rising_one p (row 3 _ 0) refl
  rising_rows (Tree.bind w t) p l = rising_bind p _ (rows_from ns hs (suc p) l t) (rows_some t (suc p) l) (rising_rows t (suc p) l)
  rising_rows (Tree.call t u) p l =
      let m : ℕ = suc p + size t in
      let k : ℕ = l + length (leaves t) in
      rising_call p m (rows_from ns hs (suc p) l t) (rows_from ns hs m k u) (rows_some t (suc p) l) (rows_some u m k) (ap (λ n. suc p + n) (sym (rows_from_long ns hs t (suc p) l))) (rising_rows t (suc p) l) (rising_rows u m k)

  -- the records of recipes
  pub rising_all : (ts : List Tree) (p l : ℕ) → Rising p (all_rows_from ns hs p l ts)
  unfolding all_rows_from
  rising_all [] p l = rising_none p
  rising_all (t ∷ ts) p l =
      rising_append p (rows_from ns hs p l t) (all_rows_from ns hs (p + size t) (l + length (leaves t)) ts)
      (rising_rows t p l)
      (subst (λ n. Rising n (all_rows_from ns hs (p + size t) (l + length (leaves t)) ts)) (ap (λ n. p + n) (sym (rows_from_long ns hs t p l))) (rising_all ts (p + size t) (l + length (leaves t))))

-- a part in the table of recipes is one that the records have
pub held : {L : Type 0} (ts : List Tree) (ls : List L) (p : ℕ) (x : Part ℕ) → In x (parts ((table_of (places_of ts) ls).form p)) → Holds 0 (places_of ts) p x
held ts ls p x i = subst (λ n. Holds 0 (places_of ts) n x) (zero-add p) (holds_at ls (places_of ts) 0 p x i)
