-- What tokens need of the lists that are to be filled, and the nesting of their lists. Assumes nothing. (docs/RULES.md, "Notation")
use Rattle.std.specs.Prelude.{ℕ, zero, suc, pred, ◌≤◌, max, Bool, true, false, cond, List, [], ◌∷◌, ◌++◌, length, map, filter, bytes_eq}
use Rattle.std.specs.List.{list_any}
use Rattle.tokens.specs.Tokens.{Token}
use Rattle.tokens.specs.declared.classes.Class.{Class}

-- for how many entries the lists have room
pub record Room : Type 0 where
  pub places : ℕ
  pub names : ℕ
  pub holes : ℕ
  pub leaves : ℕ

-- the list ns with the spelling w at its end, unless w is in it
abbrev pub with_word : List (List ℕ) → List ℕ → List (List ℕ)
with_word ns w = cond (list_any (bytes_eq w) ns) ns (ns ++ w ∷ [])

-- the list ns with each of the spellings at its end that is not yet in it
unfoldable pub with_words : List (List ℕ) → List (List ℕ) → List (List ℕ)
with_words ns [] = ns
with_words ns (w ∷ ws) = with_words (with_word ns w) ws

-- the different ones of the spellings, in the order of their first appearances
abbrev pub firsts : List (List ℕ) → List (List ℕ)
firsts ws = with_words [] ws

-- a name
abbrev pub is_name : Class → Bool
is_name Class.Name = true
is_name c = false

-- a hole
abbrev pub is_hole : Class → Bool
is_hole Class.Hole = true
is_hole c = false

-- a leaf word
abbrev pub is_leaf : Class → Bool
is_leaf Class.Leaf = true
is_leaf c = false

-- outside binder lists, a list takes a place at its parenthesis, and nil, a name, a hole and a leaf word take one
abbrev pub takes_place : Class → Bool
takes_place Class.Open = true
takes_place Class.Nil = true
takes_place Class.Name = true
takes_place Class.Hole = true
takes_place Class.Leaf = true
takes_place c = false

-- how many tokens after one of this class are a binder list: the three after `lambda`
abbrev pub binding : Class → ℕ
binding Class.Lambda = 3
binding c = 0

-- the tokens that stand in no binder list, where the first n do
unfoldable pub outside : ℕ → List Token → List Token
outside n [] = []
outside zero (k ∷ s) = k ∷ outside (binding k.class) s
outside (suc n) (k ∷ s) = outside n s

-- the tokens that need a place each
abbrev pub placed : List Token → List Token
placed u = filter (λ k. takes_place k.class) (outside 0 u)

-- the words of the names, those of binders too
abbrev pub name_words : List Token → List (List ℕ)
name_words u = map (λ k. k.bytes) (filter (λ k. is_name k.class) u)

-- the words of the holes
abbrev pub hole_words : List Token → List (List ℕ)
hole_words u = map (λ k. k.bytes) (filter (λ k. is_hole k.class) u)

-- the leaf words
abbrev pub leaf_words : List Token → List (List ℕ)
leaf_words u = map (λ k. k.bytes) (filter (λ k. is_leaf k.class) u)

-- how many lists are open after a token, where d are open before it
abbrev pub opened : Class → ℕ → ℕ
opened Class.Open d = suc d
opened Class.Close d = pred d
opened c d = d

-- the most lists that are open at once in tokens without binder lists, where d are open before them
unfoldable pub deepest : ℕ → List Token → ℕ
deepest d [] = d
deepest d (k ∷ s) = max d (deepest (opened k.class d) s)

-- the lists have room for the tokens u, and no more than 128 lists are open at once, binder lists not counted
pub record Fits (room : Room) (u : List Token) : Type 0 where
  pub places : length (placed u) ≤ room.places
  pub names : length (firsts (name_words u)) ≤ room.names
  pub holes : length (firsts (hole_words u)) ≤ room.holes
  pub leaves : length (leaf_words u) ≤ room.leaves
  pub nesting : deepest 0 (outside 0 u) ≤ 128
