-- The places of a table of recipes are as deep as binds of the recipes stand one inside the other. Assumes nothing.
use Rattle.std.proofs.Common.{◌≡◌, ℕ, suc, ◌+◌, ◌<◌, ◌≤◌, inl, inr, ◌↔◌, List, [], ◌∷◌, ◌++◌, length, Some, None, Option, refl, ap, sym, subst, ◌∙◌, zero-add, length-append, arith}
use Rattle.std.proofs.lemmas.Bool.{cases_order}
use Rattle.std.proofs.lemmas.List.Elements.{All-nil, All-cons, All-head, All-tail}
use Rattle.std.specs.Prelude.{All}
use Rattle.recipe.specs.declared.places.Place.{Place}
use Rattle.recipe.specs.Common.{In}
use Rattle.recipe.specs.Marks.{deeper}
use Rattle.recipe.specs.Recipes.{Part, left, right, inside}
use Rattle.recipe.specs.Scopes.{Scope, extended}
use Rattle.recipe.specs.Tables.{Table, Holder, table_of, parts, holder, scope, scope_under, depth}
use Rattle.recipe.proofs.ByParts.{root_scope}
use Rattle.recipe.proofs.Holders.{holds, holder_some, holder_tells, scope_step}
use Rattle.notation.specs.Grammar.{Tree}
use Rattle.notation.specs.Tables.{number, size, leaves, rows_from, all_rows_from, names_of, holes_of, places_of}
use Rattle.notation.specs.ValidTables.{binders, Shallow}
use Rattle.notation.proofs.Placed.{rows_from_long}
use Rattle.notation.proofs.PartsRead.{Holds, Rising, holds_low, holds_append, holds_left, holds_right, at_holds, held, size_some, rising_rows, rising_all}

module _ (deep : ℕ → ℕ) where
  -- the depth of a part is that of its holder, and one more under a binder
  abbrev pub Steps : ℕ → List Place → Type 0
  Steps p rs = (q : ℕ) (x : Part ℕ) → Holds p rs q x → deep x.at ≡ deep q + deeper x.under

  -- a place that no place holds has the depth 0
  abbrev pub Roots : ℕ → List Place → Type 0
  Roots p rs = (q : ℕ) → p ≤ q → q < p + length rs → ((s : ℕ) (x : Part ℕ) → Holds p rs s x → x.at ≡ q → ⊥) → deep q ≡ 0

  module _ (most : ℕ) where
    -- n places from p on are no deeper than `most`
    abbrev pub Within : ℕ → ℕ → Type 0
    Within p n = (q : ℕ) → p ≤ q → q < p + n → deep q ≤ most

    -- a place and those after it
    within_first : (p n : ℕ) → deep p ≤ most → Within (suc p) n → Within p (suc n)
    within_first p n h rest q low high = elim (cases_order p q) [
      | inl e ↦ subst (λ m. deep m ≤ most) e h
      | inr (inl less) ↦ rest q less (omega arith)
      | inr (inr more) ↦ absurd (omega arith)
    ]

    -- places and those after them
    within_join : (p m n : ℕ) → Within p m → Within (p + m) n → Within p (m + n)
    within_join p m n one two q low high = elim (cases_order q (p + m)) [
      | inl e ↦ two q (omega arith) (omega arith)
      | inr (inl less) ↦ one q low less
      | inr (inr more) ↦ two q (omega arith) (omega arith)
    ]

    -- and each of the two
    within_left : (p m n : ℕ) → Within p (m + n) → Within p m
    within_left p m n all q low high = all q low (omega arith)

    within_right : (p m n : ℕ) → Within p (m + n) → Within (p + m) n
    within_right p m n all q low high = all q (omega arith) (omega arith)

    -- a recipe of one place
    one_place : (p : ℕ) → (deep p + 0 ≤ most) ↔ Within p 1
    one_place p = (λ h. within_first p 0 (omega (arith, h)) (λ q low high. absurd (omega arith)), λ all. omega (arith, all p (omega arith) (omega arith)))

    module _ (ns hs : List (List ℕ)) where
      -- the depths of a recipe, from that of its first place
      deep_rows : (t : Tree) (p l : ℕ) → Steps p (rows_from ns hs p l t) → (deep p + binders t ≤ most) ↔ Within p (size t)
      unfolding rows_from size binders
      deep_rows Tree.nil p l steps = one_place p
      deep_rows (Tree.leaf w) p l steps = one_place p
      deep_rows (Tree.name w) p l steps = one_place p
      deep_rows (Tree.hole w) p l steps = one_place p
      deep_rows (Tree.bind w t) p l steps =
          let down : deep (suc p) ≡ deep p + 1 = steps p (inside (number ns w) (suc p)) (inl (refl, inl refl)) in
          let inner = deep_rows t (suc p) l (λ q x h. steps q x (inr h)) in (
            λ h. within_first p (size t) (omega (arith, h)) (inner.0 (omega (arith, h, down))),
            λ all. let h = inner.1 (λ q low high. all q (omega arith) (omega arith)) in omega (arith, h, down),
          )
      deep_rows (Tree.call t u) p l steps =
          let m : ℕ = suc p + size t in
          let k : ℕ = l + length (leaves t) in
          let rs : List Place = rows_from ns hs (suc p) l t in
          let ss : List Place = rows_from ns hs m k u in
          let is : m ≡ suc p + length rs = ap (λ n. suc p + n) (sym (rows_from_long ns hs t (suc p) l)) in
          let down_left : deep (suc p) ≡ deep p + 0 = steps p (left (suc p)) (inl (refl, inl refl)) in
          let down_right : deep m ≡ deep p + 0 = steps p (right m) (inl (refl, inr (inl refl))) in
          let one = deep_rows t (suc p) l (λ q x h. steps q x (inr (holds_left rs ss (suc p) q x h))) in
          let two = deep_rows u m k (λ q x h. steps q x (inr (holds_right rs ss (suc p) m q x is h))) in (
            λ h. within_first p (size t + size u) (omega (arith, h)) (within_join (suc p) (size t) (size u) (one.0 (omega (arith, h, down_left))) (two.0 (omega (arith, h, down_right)))),
            λ all.
                let rest : Within (suc p) (size t + size u) = λ q low high. all q (omega arith) (omega arith) in
                let h = one.1 (within_left (suc p) (size t) (size u) rest) in
                let g = two.1 (within_right (suc p) (size t) (size u) rest) in
                omega (arith, h, g, down_left, down_right),
          )

      -- the depths of recipes
      deep_all : (ts : List Tree) (p l : ℕ) → Steps p (all_rows_from ns hs p l ts) → Roots p (all_rows_from ns hs p l ts) → Within p (length (all_rows_from ns hs p l ts)) ↔ All (λ t. binders t ≤ most) ts
      unfolding all_rows_from
      deep_all [] p l steps roots = (λ all. All-nil (λ t. binders t ≤ most), λ all q low high. absurd (omega arith))
      deep_all (t ∷ ts) p l steps roots =
          let m : ℕ = p + size t in
          let k : ℕ = l + length (leaves t) in
          let rs : List Place = rows_from ns hs p l t in
          let ss : List Place = all_rows_from ns hs m k ts in
          let rs_long : length rs ≡ size t = rows_from_long ns hs t p l in
          let long : length (rs ++ ss) ≡ size t + length ss = length-append rs ss ∙ ap (λ n. n + length ss) rs_long in
          let is : m ≡ p + length rs = ap (λ n. p + n) (sym rs_long) in
          let some = size_some t in
          let up = (rising_rows ns hs t p l).up in
          let up_all = (rising_all ns hs (t ∷ ts) p l).up in
          let first : deep p ≡ 0 = roots p (omega arith) (omega (arith, long, some)) (λ s x h e. omega (arith, e, (up_all s x h).0, holds_low (rs ++ ss) p s x h)) in
          let one = deep_rows t p l (λ q x h. steps q x (holds_left rs ss p q x h)) in
          let rest = deep_all ts m k (λ q x h. steps q x (holds_right rs ss p m q x is h)) (λ q low high free. roots q (omega arith) (omega (arith, long, low, high)) (λ s x h e. elim (holds_append rs ss p s x h) [ inl i ↦ omega (arith, e, (up s x i).1, is, low) | inr i ↦ free s x (subst (λ n. Holds n ss s x) (sym is) i) e ])) in (
            λ all.
                let within : Within p (size t + length ss) = subst (Within p) long all in
                let h = one.1 (within_left p (size t) (length ss) within) in
                All-cons (λ r. binders r ≤ most) t ts (omega (arith, h, first)) (rest.0 (within_right p (size t) (length ss) within)),
            λ all.
                let h = All-head (λ r. binders r ≤ most) t ts all in
                subst (Within p) (sym long) (within_join p (size t) (length ss) (one.0 (omega (arith, h, first))) (rest.1 (All-tail (λ r. binders r ≤ most) t ts all))),
          )

-- a scope is longer below a binder
extended_long : (o : Option ℕ) (Φ : Scope) → length (extended o Φ) ≡ length Φ + deeper o
extended_long None Φ = omega arith
extended_long (Some a) Φ = omega arith

module _ {L : Type 0} (ts : List Tree) (ls : List L) where
  abbrev T : Table L
  T = table_of (places_of ts) ls

  -- the parts of the table rise
  abbrev rising : Rising 0 (places_of ts)
  rising = rising_all (names_of ts) (holes_of ts) ts 0 0

  -- what the records have is a part in the table
  part_at : (p : ℕ) (x : Part ℕ) → Holds 0 (places_of ts) p x → In x (parts (T.form p))
  part_at p x h = at_holds ls (places_of ts) 0 p p x (sym (zero-add p)) h

  -- the holder of a part, where one is found
  the_holder : (p : ℕ) (x : Part ℕ) (o : Option Holder) → Holds 0 (places_of ts) p x → holder T x.at ≡ o → o ≡ Some (holds p x)
  the_holder p x None h e = absurd (holder_some T x.at p x (rising.up p x h).0 (part_at p x h) e)
  the_holder p x (Some k) h e =
      let (q, low, y, j, at, by) = holder_tells T x.at x.at k e in
      let same = rising.once q p y x (held ts ls q y j) h at in
      cc (same.0, same.1)

  -- a scope goes on from holder to part
  steps : Steps (depth T) 0 (places_of ts)
  steps p x h =
      ap (λ Φ. length Φ) (scope_step T x.at ∙ ap (scope_under (scope T)) (the_holder p x (holder T x.at) h refl)) ∙ extended_long x.under (scope T p)

  -- and begins at the places that no place holds
  roots : Roots (depth T) 0 (places_of ts)
  roots p low high free = ap (λ Φ. length Φ) (root_scope T p (omega (arith, high), λ q x i e. free q x (held ts ls q x i) e))

  -- no place is too deep exactly where no more than 64 binds of a recipe stand one inside the other
  pub shallow_read : Shallow T ↔ All (λ t. binders t ≤ 64) ts
  shallow_read =
      let deep = deep_all (depth T) 64 (names_of ts) (holes_of ts) ts 0 0 steps roots in
      (λ shallow. deep.0 (λ q low high. shallow q (omega (arith, high))), λ few q high. deep.1 few q (omega arith) (omega (arith, high)))
