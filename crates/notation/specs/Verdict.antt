-- Which refusal a list of tokens gets: the one at the first token that is wrong or finds no room, else at the end, else at a leaf word. Assumes nothing. (docs/RULES.md, "Notation")
use Rattle.std.specs.Prelude.{◌≡◌, ◌≢◌, ℕ, List, [], ◌∷◌, ◌++◌, None, Option, is_some, true}
use Rattle.tokens.specs.Tokens.{Token}
use Rattle.tokens.specs.declared.classes.Class.{Class}
use Rattle.recipe.specs.Common.{In}
use Rattle.recipe.specs.declared.refusals.Refusal.{Refusal}
use Rattle.notation.specs.Grammar.{Tree, SpellsAll, Begins}
use Rattle.notation.specs.Fitting.{Room, Fits}

-- s goes wrong at the token k: the tokens before it begin recipes and fit, and with it they begin none
pub record WrongAt (room : Room) (s : List Token) (k : Token) : Type 0 where
  pub before : List Token
  pub after : List Token
  pub split : s ≡ before ++ k ∷ after
  pub begins : Begins before
  pub fits : Fits room before
  pub wrong : Begins (before ++ k ∷ []) → ⊥

-- s finds no room at the token k: the tokens before it fit, and with it they still begin recipes, but do not fit
pub record FullAt (room : Room) (s : List Token) (k : Token) : Type 0 where
  pub before : List Token
  pub after : List Token
  pub split : s ≡ before ++ k ∷ after
  pub fits : Fits room before
  pub begins : Begins (before ++ k ∷ [])
  pub full : Fits room (before ++ k ∷ []) → ⊥

-- s ends inside a list: it begins recipes and fits, but is no recipes
pub record EndsInside (room : Room) (s : List Token) : Type 0 where
  pub begins : Begins s
  pub fits : Fits room s
  pub unspelled : (ts : List Tree) → SpellsAll s ts → ⊥

-- s is recipes and fits, and k is its first leaf word that the kind does not read
pub record UnreadAt {L : Type 0} (room : Room) (reads : List ℕ → Option L) (s : List Token) (k : Token) : Type 0 where
  pub before : List Token
  pub after : List Token
  pub split : s ≡ before ++ k ∷ after
  pub trees : List Tree
  pub spells : SpellsAll s trees
  pub fits : Fits room s
  pub leaf : k.class ≡ Class.Leaf
  pub unread : reads k.bytes ≡ None
  pub first : (j : Token) → In j before → j.class ≡ Class.Leaf → is_some (reads j.bytes) ≡ true

-- the tokens s of a text of `size` bytes are refused by this refusal
pub data Refused {L : Type 0} (room : Room) (size : ℕ) (reads : List ℕ → Option L) (s : List Token) : Refusal → Type 0 where
  unknown : {k : Token} → WrongAt room s k → k.class ≡ Class.Unknown → Refused room size reads s (Refusal.UnknownWord k.start)
  misplaced : {k : Token} → WrongAt room s k → k.class ≢ Class.Unknown → Refused room size reads s (Refusal.Misplaced k.start)
  full : {k : Token} → FullAt room s k → Refused room size reads s (Refusal.NoRoom k.start)
  unfinished : EndsInside room s → Refused room size reads s (Refusal.Unfinished size)
  unread : {k : Token} → UnreadAt room reads s k → Refused room size reads s (Refusal.UnreadLeaf k.start)
