-- The words of recipes are those of their tokens, and what a kind reads of the leaf words. Assumes nothing.
use Rattle.std.proofs.Common.{◌≡◌, ℕ, Bool, true, false, cond, List, [], ◌∷◌, ◌++◌, length, drop, map, filter, slice_index_or, Some, None, Option, is_some, refl, ap, ap₂, sym, subst, ◌∙◌, append_assoc, inl, inr, true≢false, suc-ne-zero}
use Rattle.tokens.specs.Tokens.{Token}
use Rattle.tokens.specs.declared.classes.Class.{Class}
use Rattle.recipe.specs.Common.{In}
use Rattle.notation.specs.Grammar.{Tree, Spells, SpellsAll}
use Rattle.notation.specs.Fitting.{is_leaf, is_name, is_hole, leaf_words, name_words, hole_words}
use Rattle.notation.specs.Tables.{names, holes, leaves, leaves_of, of_each}
use Rattle.notation.specs.Reading.{ReadAs}

-- the bytes of the tokens whose class passes the test
abbrev pub words : (Class → Bool) → List Token → List (List ℕ)
words p u = map (λ k. k.bytes) (filter (λ k. p k.class) u)

-- the words of a recipe whose classes pass the test
record Collects (p : Class → Bool) (f : Tree → List (List ℕ)) : Type 0 where
  opens : p Class.Open ≡ false
  closes : p Class.Close ≡ false
  lambdas : p Class.Lambda ≡ false
  nils : p Class.Nil ≡ false
  nil : f Tree.nil ≡ []
  leaf : (w : List ℕ) → f (Tree.leaf w) ≡ cond (p Class.Leaf) (w ∷ []) []
  name : (w : List ℕ) → f (Tree.name w) ≡ cond (p Class.Name) (w ∷ []) []
  hole : (w : List ℕ) → f (Tree.hole w) ≡ cond (p Class.Hole) (w ∷ []) []
  bind : (w : List ℕ) (t : Tree) → f (Tree.bind w t) ≡ cond (p Class.Name) (w ∷ []) [] ++ f t
  call : (t u : Tree) → f (Tree.call t u) ≡ f t ++ f u

module _ (p : Class → Bool) where
  one_of : (b : Bool) (k : Token) (s : List Token) → map (λ j. j.bytes) (cond b (k ∷ s) s) ≡ cond b (k.bytes ∷ []) [] ++ map (λ j. j.bytes) s
  one_of true k s = refl
  one_of false k s = refl

  -- the words of one token more
  pub words_one : (k : Token) (s : List Token) (c : Class) (w : List ℕ) → k.class ≡ c → k.bytes ≡ w → words p (k ∷ s) ≡ cond (p c) (w ∷ []) [] ++ words p s
  words_one k s c w e f =
      one_of (p k.class) k (filter (λ j. p j.class) s) ∙ ap₂ (λ d v. cond (p d) (v ∷ []) [] ++ words p s) e f

  -- a token that does not pass
  words_skip : (k : Token) (s : List Token) (c : Class) → k.class ≡ c → p c ≡ false → words p (k ∷ s) ≡ words p s
  words_skip k s c e f = words_one k s c k.bytes e refl ∙ ap (λ b. cond b (k.bytes ∷ []) [] ++ words p s) f

  module _ (f : Tree → List (List ℕ)) (C : Collects p f) where
    words_then : {s r : List Token} {t : Tree} → Spells s t r → words p s ≡ f t ++ words p r
    words_then (Spells.nil {k = k} {r = r} e) = words_skip k r Class.Nil e C.nils ∙ ap (λ x. x ++ words p r) (sym C.nil)
    words_then (Spells.leaf {k = k} {w = v} {r = r} w) = words_one k r Class.Leaf v w.class w.bytes ∙ ap (λ x. x ++ words p r) (sym (C.leaf v))
    words_then (Spells.name {k = k} {w = v} {r = r} w) = words_one k r Class.Name v w.class w.bytes ∙ ap (λ x. x ++ words p r) (sym (C.name v))
    words_then (Spells.hole {k = k} {w = v} {r = r} w) = words_one k r Class.Hole v w.class w.bytes ∙ ap (λ x. x ++ words p r) (sym (C.hole v))
    words_then (Spells.bind {o = o} {l = l} {b = b} {k = k} {c = c} {e = e} {w = v} {t = t} {s = s} {r = r} a1 a2 a3 w a4 h a5) =
        words_skip o (l ∷ b ∷ k ∷ c ∷ s) Class.Open a1 C.opens
        ∙ words_skip l (b ∷ k ∷ c ∷ s) Class.Lambda a2 C.lambdas
        ∙ words_skip b (k ∷ c ∷ s) Class.Open a3 C.opens
        ∙ words_one k (c ∷ s) Class.Name v w.class w.bytes
        ∙ ap (λ x. cond (p Class.Name) (v ∷ []) [] ++ x) (words_skip c s Class.Close a4 C.closes ∙ words_then h ∙ ap (λ x. f t ++ x) (words_skip e r Class.Close a5 C.closes))
        ∙ sym (append_assoc (cond (p Class.Name) (v ∷ []) []) (f t) (words p r))
        ∙ ap (λ x. x ++ words p r) (sym (C.bind v t))
    words_then (Spells.call {o = o} {e = e} {t = t} {u = u} {s = s} {r = r} a1 h g a2) =
        words_skip o s Class.Open a1 C.opens
        ∙ words_then h
        ∙ ap (λ x. f t ++ x) (words_then g ∙ ap (λ x. f u ++ x) (words_skip e r Class.Close a2 C.closes))
        ∙ sym (append_assoc (f t) (f u) (words p r))
        ∙ ap (λ x. x ++ words p r) (sym (C.call t u))

    words_all : {s : List Token} {ts : List Tree} → SpellsAll s ts → words p s ≡ of_each f ts
    unfolding of_each
    words_all SpellsAll.none = refl
    words_all (SpellsAll.more {t = t} h hs) = words_then h ∙ ap (λ x. f t ++ x) (words_all hs)

collects_leaves : Collects is_leaf leaves
unfolding leaves
collects_leaves =
    record {
      opens = refl;
      closes = refl;
      lambdas = refl;
      nils = refl;
      nil = refl;
      leaf = λ w. refl;
      name = λ w. refl;
      hole = λ w. refl;
      bind = λ w t. refl;
      call = λ t u. refl;
    }

collects_names : Collects is_name names
unfolding names
collects_names =
    record {
      opens = refl;
      closes = refl;
      lambdas = refl;
      nils = refl;
      nil = refl;
      leaf = λ w. refl;
      name = λ w. refl;
      hole = λ w. refl;
      bind = λ w t. refl;
      call = λ t u. refl;
    }

collects_holes : Collects is_hole holes
unfolding holes
collects_holes =
    record {
      opens = refl;
      closes = refl;
      lambdas = refl;
      nils = refl;
      nil = refl;
      leaf = λ w. refl;
      name = λ w. refl;
      hole = λ w. refl;
      bind = λ w t. refl;
      call = λ t u. refl;
    }

-- the words of a recipe, and then those of the rest, are the words of the tokens
pub leaves_then : {s r : List Token} {t : Tree} → Spells s t r → leaf_words s ≡ leaves t ++ leaf_words r
leaves_then h = words_then is_leaf leaves collects_leaves h

pub leaves_spelled : {s : List Token} {ts : List Tree} → SpellsAll s ts → leaf_words s ≡ leaves_of ts
leaves_spelled h = words_all is_leaf leaves collects_leaves h

pub names_spelled : {s : List Token} {ts : List Tree} → SpellsAll s ts → name_words s ≡ of_each names ts
names_spelled h = words_all is_name names collects_names h

pub holes_spelled : {s : List Token} {ts : List Tree} → SpellsAll s ts → hole_words s ≡ of_each holes ts
holes_spelled h = words_all is_hole holes collects_holes h

-- what stands in a list stands in the list with one more
in_cond : (b : Bool) (w : List ℕ) (k : Token) (s : List Token) → In w (map (λ j. j.bytes) s) → In w (map (λ j. j.bytes) (cond b (k ∷ s) s))
in_cond true w k s h = inr h
in_cond false w k s h = h

-- the word of a leaf token is among the leaf words
in_words : (j : Token) (u : List Token) → In j u → j.class ≡ Class.Leaf → In j.bytes (leaf_words u)
in_words j [] h leaf = elim h [ ]
in_words j (i ∷ u) (inl e) leaf =
    subst (λ q. In j.bytes q) (sym (words_one is_leaf i u Class.Leaf i.bytes (ap (λ x. x.class) (sym e) ∙ leaf) refl)) (inl (ap (λ x. x.bytes) e))
in_words j (i ∷ u) (inr h) leaf = in_cond (is_leaf i.class) j.bytes i (filter (λ k. is_leaf k.class) u) (in_words j u h leaf)

in_middle : (u v : List Token) (k : Token) → In k (u ++ k ∷ v)
in_middle [] v k = inl refl
in_middle (i ∷ u) v k = inr (in_middle u v k)

map_append : {A B : Type 0} (f : A → B) (xs ys : List A) → map f (xs ++ ys) ≡ map f xs ++ map f ys
map_append f [] ys = refl
map_append f (x ∷ xs) ys = ap (λ q. f x ∷ q) (map_append f xs ys)

module _ {L : Type 0} (reads : List ℕ → Option L) where
  -- words that are read are read one by one
  pub read_append : (v w : List (List ℕ)) (ls ms : List L) → ReadAs reads v ls → ReadAs reads w ms → ReadAs reads (v ++ w) (ls ++ ms)
  read_append v w ls ms h g = map_append reads v w ∙ ap₂ (λ x y. x ++ y) h g ∙ sym (map_append Some ls ms)

  -- each of them is read
  pub read_in : (ws : List (List ℕ)) (ls : List L) → ReadAs reads ws ls → (w : List ℕ) → In w ws → is_some (reads w) ≡ true
  read_in [] ls h w i = elim i [ ]
  read_in (x ∷ ws) [] h w i = absurd (suc-ne-zero (length (map reads ws)) (ap (λ q. length q) h))
  read_in (x ∷ ws) (l ∷ ls) h w (inl e) = ap (λ q. is_some (reads q)) e ∙ ap (λ q. is_some (slice_index_or q 0 None)) h
  read_in (x ∷ ws) (l ∷ ls) h w (inr i) = read_in ws ls (ap (λ q. drop 1 q) h) w i

  -- where all leaf words are read, each leaf token is
  pub read_each : (u : List Token) (ls : List L) → ReadAs reads (leaf_words u) ls → (j : Token) → In j u → j.class ≡ Class.Leaf → is_some (reads j.bytes) ≡ true
  read_each u ls h j i leaf = read_in (leaf_words u) ls h j.bytes (in_words j u i leaf)

  -- a leaf word that is not read spoils the whole
  pub unread_spoils : (u v : List Token) (k : Token) (ls : List L) → k.class ≡ Class.Leaf → reads k.bytes ≡ None → ReadAs reads (leaf_words (u ++ k ∷ v)) ls → ⊥
  unread_spoils u v k ls leaf unread h =
      true≢false (sym (read_each (u ++ k ∷ v) ls h k (in_middle u v k) leaf) ∙ ap (λ o. is_some o) unread)
