-- Which tokens spell which recipes. Assumes nothing. (docs/RULES.md, "Notation")
use Rattle.std.specs.Prelude.{◌≡◌, ℕ, List, [], ◌∷◌, ◌++◌}
use Rattle.tokens.specs.Tokens.{Token}
use Rattle.tokens.specs.declared.classes.Class.{Class}

-- a recipe with its words, each a list of bytes
pub data Tree : Type 0 where
  nil : Tree
  leaf : List ℕ → Tree
  name : List ℕ → Tree
  hole : List ℕ → Tree
  bind : List ℕ → Tree → Tree
  call : Tree → Tree → Tree

-- the token k has the class c, and is the word w
pub record Word (c : Class) (k : Token) (w : List ℕ) : Type 0 where
  pub class : k.class ≡ c
  pub bytes : k.bytes ≡ w

-- the tokens s are the recipe t and then r: one token, or `( lambda ( name ) recipe )`, or `( recipe recipe )`
pub data Spells : List Token → Tree → List Token → Type 0 where
  nil : {k : Token} {r : List Token} → k.class ≡ Class.Nil → Spells (k ∷ r) Tree.nil r
  leaf : {k : Token} {w : List ℕ} {r : List Token} → Word Class.Leaf k w → Spells (k ∷ r) (Tree.leaf w) r
  name : {k : Token} {w : List ℕ} {r : List Token} → Word Class.Name k w → Spells (k ∷ r) (Tree.name w) r
  hole : {k : Token} {w : List ℕ} {r : List Token} → Word Class.Hole k w → Spells (k ∷ r) (Tree.hole w) r
  bind : {o l b k c e : Token} {w : List ℕ} {t : Tree} {s r : List Token} → o.class ≡ Class.Open → l.class ≡ Class.Lambda → b.class ≡ Class.Open → Word Class.Name k w → c.class ≡ Class.Close → Spells s t (e ∷ r) → e.class ≡ Class.Close → Spells (o ∷ l ∷ b ∷ k ∷ c ∷ s) (Tree.bind w t) r
  call : {o e : Token} {t u : Tree} {s m r : List Token} → o.class ≡ Class.Open → Spells s t m → Spells m u (e ∷ r) → e.class ≡ Class.Close → Spells (o ∷ s) (Tree.call t u) r

-- the tokens s are the recipes ts, one after the other
pub data SpellsAll : List Token → List Tree → Type 0 where
  none : SpellsAll [] []
  more : {s r : List Token} {t : Tree} {ts : List Tree} → Spells s t r → SpellsAll r ts → SpellsAll s (t ∷ ts)

-- the tokens u begin recipes: with some further tokens they are recipes
pub record Begins (u : List Token) : Type 0 where
  pub rest : List Token
  pub trees : List Tree
  pub spells : SpellsAll (u ++ rest) trees
