-- Spelled tokens need as many places as their table has. Assumes nothing.
use Rattle.std.proofs.Common.{◌≡◌, ℕ, suc, ◌+◌, List, ◌∷◌, length, filter, refl, ap, ap₂, sym, subst, ◌∙◌, length-append, arith}
use Rattle.tokens.specs.Tokens.{Token}
use Rattle.tokens.specs.declared.classes.Class.{Class}
use Rattle.notation.specs.Grammar.{Tree, Spells, SpellsAll}
use Rattle.notation.specs.Fitting.{takes_place, binding, outside, placed}
use Rattle.notation.specs.Tables.{size, leaves, rows_from, all_rows_from, names_of, holes_of, places_of}
use Rattle.notation.proofs.Rooms.{counted, places_one}

-- how many places the tokens need, where the first n stand in a binder list
abbrev count : ℕ → List Token → ℕ
count n u = length (filter (λ k. takes_place k.class) (outside n u))

count_one : (k : Token) (u : List Token) (c : Class) → k.class ≡ c → count 0 (k ∷ u) ≡ counted 0 c + count (binding c) u
count_one k u c e = subst (λ d. count 0 (k ∷ u) ≡ counted 0 d + count (binding d) u) e (places_one 0 k u)

-- a binder list needs no place
count_binder : (b k c : Token) (s : List Token) → count 3 (b ∷ k ∷ c ∷ s) ≡ count 0 s
unfolding outside
count_binder b k c s = refl

placed_then : {s r : List Token} {t : Tree} → Spells s t r → count 0 s ≡ size t + count 0 r
unfolding size
placed_then (Spells.nil {k = k} {r = r} e) = count_one k r Class.Nil e
placed_then (Spells.leaf {k = k} {r = r} w) = count_one k r Class.Leaf w.class
placed_then (Spells.name {k = k} {r = r} w) = count_one k r Class.Name w.class
placed_then (Spells.hole {k = k} {r = r} w) = count_one k r Class.Hole w.class
placed_then (Spells.bind {o = o} {l = l} {b = b} {k = k} {c = c} {e = e} {s = s} {r = r} a1 a2 a3 w a4 h a5) =
    let x1 = count_one o (l ∷ b ∷ k ∷ c ∷ s) Class.Open a1 in
    let x2 = count_one l (b ∷ k ∷ c ∷ s) Class.Lambda a2 in
    let x3 = count_binder b k c s in
    let x4 = placed_then h in
    let x5 = count_one e r Class.Close a5 in
    omega (arith, x1, x2, x3, x4, x5)
placed_then (Spells.call {o = o} {e = e} {s = s} {r = r} a1 h g a2) =
    let x1 = count_one o s Class.Open a1 in
    let x2 = placed_then h in
    let x3 = placed_then g in
    let x4 = count_one e r Class.Close a2 in
    omega (arith, x1, x2, x3, x4)

module _ (ns hs : List (List ℕ)) where
  pub rows_from_long : (t : Tree) (p l : ℕ) → length (rows_from ns hs p l t) ≡ size t
  unfolding rows_from size
  rows_from_long Tree.nil p l = refl
  rows_from_long (Tree.leaf w) p l = refl
  rows_from_long (Tree.name w) p l = refl
  rows_from_long (Tree.hole w) p l = refl
  rows_from_long (Tree.bind w t) p l = ap suc (rows_from_long t (suc p) l)
  rows_from_long (Tree.call t u) p l =
      ap suc (length-append (rows_from ns hs (suc p) l t) (rows_from ns hs (suc p + size t) (l + length (leaves t)) u) ∙ ap₂ (λ a b. a + b) (rows_from_long t (suc p) l) (rows_from_long u (suc p + size t) (l + length (leaves t))))

  placed_all : {s : List Token} {ts : List Tree} → SpellsAll s ts → (p l : ℕ) → count 0 s ≡ length (all_rows_from ns hs p l ts)
  unfolding outside all_rows_from
  placed_all SpellsAll.none p l = refl
  placed_all (SpellsAll.more {t = t} {ts = ts} h hs2) p l =
      placed_then h
      ∙ ap₂ (λ a b. a + b) (sym (rows_from_long t p l)) (placed_all hs2 (p + size t) (l + length (leaves t)))
      ∙ sym (length-append (rows_from ns hs p l t) (all_rows_from ns hs (p + size t) (l + length (leaves t)) ts))

-- the tokens that need a place each are as many as the table has places
pub placed_spelled : {s : List Token} {ts : List Tree} → SpellsAll s ts → length (placed s) ≡ length (places_of ts)
placed_spelled {ts = ts} h = placed_all (names_of ts) (holes_of ts) h 0 0
