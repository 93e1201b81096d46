-- The reading as a stack machine, one token a step. Assumes nothing. (only private functions cite it)
use Rattle.std.specs.Prelude.{◌≡◌, ℕ, suc, pred, Bool, true, false, ◌&&◌, List, [], ◌∷◌, ◌++◌, length, Some, None, Option, nat_le}
use Rattle.tokens.specs.Tokens.{Token}
use Rattle.tokens.specs.declared.classes.Class.{Class}
use Rattle.recipe.specs.declared.refusals.Refusal.{Refusal}
use Rattle.notation.specs.Fitting.{Room, with_word}

-- what is still to come: a recipe, a list after its parenthesis, the parenthesis of a binder list, its name, its end, the end of a list
pub data Awaited : Type 0 where
  recipe : Awaited
  head : Awaited
  binder_open : Awaited
  binder_name : Awaited
  binder_close : Awaited
  close : Awaited

-- what is still to come after a token of this class, where a recipe is to come first and then K; none where it cannot stand there
abbrev pub recipe_step : List Awaited → Class → Option (List Awaited)
recipe_step K Class.Open = Some (Awaited.head ∷ K)
recipe_step K Class.Nil = Some K
recipe_step K Class.Name = Some K
recipe_step K Class.Hole = Some K
recipe_step K Class.Leaf = Some K
recipe_step K c = None

-- the same, where a list is to go on after its parenthesis
abbrev pub head_step : List Awaited → Class → Option (List Awaited)
head_step K Class.Lambda = Some (Awaited.binder_open ∷ Awaited.binder_name ∷ Awaited.binder_close ∷ Awaited.recipe ∷ Awaited.close ∷ K)
head_step K c = recipe_step (Awaited.recipe ∷ Awaited.close ∷ K) c

-- the same, where `(` is to come
abbrev pub opening_step : List Awaited → Class → Option (List Awaited)
opening_step K Class.Open = Some K
opening_step K c = None

-- the same, where a name is to come
abbrev pub binder_step : List Awaited → Class → Option (List Awaited)
binder_step K Class.Name = Some K
binder_step K c = None

-- the same, where `)` is to come
abbrev pub close_step : List Awaited → Class → Option (List Awaited)
close_step K Class.Close = Some K
close_step K c = None

-- what is still to come after a token of this class; where nothing is, a recipe may begin
abbrev pub step : List Awaited → Class → Option (List Awaited)
step [] c = recipe_step [] c
step (Awaited.recipe ∷ K) c = recipe_step K c
step (Awaited.head ∷ K) c = head_step K c
step (Awaited.binder_open ∷ K) c = opening_step K c
step (Awaited.binder_name ∷ K) c = binder_step K c
step (Awaited.binder_close ∷ K) c = close_step K c
step (Awaited.close ∷ K) c = close_step K c

-- what is used of the lists: how many places and leaves, and which names and holes
pub record Used : Type 0 where
  pub places : ℕ
  pub names : List (List ℕ)
  pub holes : List (List ℕ)
  pub leaves : ℕ

-- nothing is used
abbrev pub unused : Used
unused = record { places = 0; names = []; holes = []; leaves = 0 }

-- one place more
abbrev pub one_place : Used → Used
one_place used = record used { places = suc used.places }

-- the name w
abbrev pub one_name : List ℕ → Used → Used
one_name w used = record used { names = with_word used.names w }

-- the hole w
abbrev pub one_hole : List ℕ → Used → Used
one_hole w used = record used { holes = with_word used.holes w }

-- one leaf more
abbrev pub one_leaf : Used → Used
one_leaf used = record used { leaves = suc used.leaves }

-- what is used after the first token of a recipe, of this class and these bytes
abbrev pub recipe_used : Class → List ℕ → Used → Used
recipe_used Class.Open w used = one_place used
recipe_used Class.Nil w used = one_place used
recipe_used Class.Name w used = one_name w (one_place used)
recipe_used Class.Hole w used = one_hole w (one_place used)
recipe_used Class.Leaf w used = one_leaf (one_place used)
recipe_used c w used = used

-- what is used after a token
abbrev pub used_after : List Awaited → Class → List ℕ → Used → Used
used_after [] c w used = recipe_used c w used
used_after (Awaited.recipe ∷ K) c w used = recipe_used c w used
used_after (Awaited.head ∷ K) c w used = recipe_used c w used
used_after (Awaited.binder_open ∷ K) c w used = used
used_after (Awaited.binder_name ∷ K) c w used = one_name w used
used_after (Awaited.binder_close ∷ K) c w used = used
used_after (Awaited.close ∷ K) c w used = used

-- how deep lists nest after the first token of a recipe
abbrev pub recipe_depth : Class → ℕ → ℕ
recipe_depth Class.Open d = suc d
recipe_depth c d = d

-- how deep lists nest after a token
abbrev pub depth_after : List Awaited → Class → ℕ → ℕ
depth_after [] c d = recipe_depth c d
depth_after (Awaited.recipe ∷ K) c d = recipe_depth c d
depth_after (Awaited.head ∷ K) c d = recipe_depth c d
depth_after (Awaited.binder_open ∷ K) c d = d
depth_after (Awaited.binder_name ∷ K) c d = d
depth_after (Awaited.binder_close ∷ K) c d = d
depth_after (Awaited.close ∷ K) c d = pred d

-- the room holds what is used, and lists nest no deeper than they may
abbrev pub within : Room → ℕ → Used → Bool
within room d used =
    nat_le used.places room.places && (nat_le (length used.names) room.names && (nat_le (length used.holes) room.holes && (nat_le used.leaves room.leaves && nat_le d 128)))

-- the refusal of a token of this class that cannot stand where it does
abbrev pub wrong : Class → ℕ → Refusal
wrong Class.Unknown start = Refusal.UnknownWord start
wrong c start = Refusal.Misplaced start

-- the refusal at the end of a text of `size` bytes, if something is still to come
abbrev pub at_end : ℕ → List Awaited → Option Refusal
at_end size [] = None
at_end size (x ∷ K) = Some (Refusal.Unfinished size)

-- the refusal at the token k, or what follows it: it cannot stand there, or there is no room, or the machine goes on
abbrev pub gone_on : Token → Option (List Awaited) → Bool → (List Awaited → Option Refusal) → Option Refusal
gone_on k None fits on = Some (wrong k.class k.start)
gone_on k (Some K) false on = Some (Refusal.NoRoom k.start)
gone_on k (Some K) true on = on K

module _ (room : Room) (size : ℕ) where
  -- the refusal of the tokens where K is still to come, lists nest d deep and so much is used, or none
  unfoldable pub run : List Awaited → ℕ → Used → List Token → Option Refusal
  run K d used [] = at_end size K
  run K d used (k ∷ s) =
      gone_on
      k
      (step K k.class)
      (within room (depth_after K k.class d) (used_after K k.class k.bytes used))
      (λ N. run N (depth_after K k.class d) (used_after K k.class k.bytes used) s)

  -- whatever K is to come below, running from the tokens s with J above K is running from the tokens r with M above K
  pub record Turns (J M : List Awaited) (d e : ℕ) (used more : Used) (s r : List Token) : Type 0 where
    pub on : (K : List Awaited) → run (J ++ K) d used s ≡ run (M ++ K) e more r

  -- whatever K is to come below, the tokens s are refused with r where J is above K
  pub record Stops (J : List Awaited) (d : ℕ) (used : Used) (s : List Token) (r : Refusal) : Type 0 where
    pub at : (K : List Awaited) → run (J ++ K) d used s ≡ Some r
