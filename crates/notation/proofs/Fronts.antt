-- The machine over a front of the tokens: what is still to come after it, with and without the question of room. Assumes nothing.
use Rattle.std.proofs.Common.{◌≡◌, ℕ, Bool, true, false, List, [], ◌∷◌, ◌++◌, Some, None, Option, refl, ap, sym, subst}
use Rattle.std.proofs.lemmas.Option.{none-some, same_Some}
use Rattle.std.specs.Prelude.{option_and_then}
use Rattle.tokens.specs.Tokens.{Token}
use Rattle.recipe.specs.declared.refusals.Refusal.{Refusal}
use Rattle.notation.specs.Fitting.{Room}
use Rattle.notation.specs.Machine.{Awaited, Used, step, used_after, depth_after, within, run, unused, wrong, at_end, gone_on}

-- what is still to come after the tokens, or none where one of them cannot stand where it does
unfoldable pub to_come : List Awaited → List Token → Option (List Awaited)
to_come K [] = Some K
to_come K (k ∷ s) = option_and_then (λ N. to_come N s) (step K k.class)

-- where the machine stands
pub record State : Type 0 where
  pub stack : List Awaited
  pub depth : ℕ
  pub used : Used

-- where the machine stands at first
abbrev pub initial : State
initial = record { stack = []; depth = 0; used = unused }

-- where it stands after a token, if what is still to come then is known
abbrev pub moved : State → Token → List Awaited → State
moved x k N =
    record { stack = N; depth = depth_after x.stack k.class x.depth; used = used_after x.stack k.class k.bytes x.used }

-- a place where there is room
abbrev pub roomy : Room → State → Bool
roomy room x = within room x.depth x.used

-- the next step, where there is room
abbrev pub if_room : Bool → Option State → Option State
if_room false x = None
if_room true x = x

module _ (room : Room) where
  -- where the machine stands after the tokens, or none where it refuses one of them
  unfoldable pub front : State → List Token → Option State
  front x [] = Some x
  front x (k ∷ s) =
      option_and_then (λ N. if_room (roomy room (moved x k N)) (front (moved x k N) s)) (step x.stack k.class)

module _ (room : Room) (size : ℕ) where
  -- the run from a state
  abbrev pub run_from : State → List Token → Option Refusal
  run_from x s = run room size x.stack x.depth x.used s

-- one option after the other
and_then_then : {A B C : Type 0} (o : Option A) (f : A → Option B) (g : B → Option C) (h : A → Option C) → ((a : A) → h a ≡ option_and_then g (f a)) → option_and_then h o ≡ option_and_then g (option_and_then f o)
and_then_then None f g h e = refl
and_then_then (Some a) f g h e = e a

-- to come after u and then v
pub to_come_append : (K : List Awaited) (u v : List Token) → to_come K (u ++ v) ≡ option_and_then (λ N. to_come N v) (to_come K u)
unfolding to_come
to_come_append K [] v = refl
to_come_append K (k ∷ u) v =
    and_then_then (step K k.class) (λ N. to_come N u) (λ N. to_come N v) (λ N. to_come N (u ++ v)) (λ N. to_come_append N u v)

-- one test of room after the other
if_room_then : (b : Bool) (x : Option State) (y : Option State) (g : State → Option State) → y ≡ option_and_then g x → if_room b y ≡ option_and_then g (if_room b x)
if_room_then false x y g e = refl
if_room_then true x y g e = e

-- the state after u and then v
pub front_append : (room : Room) (x : State) (u v : List Token) → front room x (u ++ v) ≡ option_and_then (λ y. front room y v) (front room x u)
unfolding front
front_append room x [] v = refl
front_append room x (k ∷ u) v =
    and_then_then
    (step x.stack k.class)
    (λ N. if_room (roomy room (moved x k N)) (front room (moved x k N) u))
    (λ y. front room y v)
    (λ N. if_room (roomy room (moved x k N)) (front room (moved x k N) (u ++ v)))
    (λ N. if_room_then (roomy room (moved x k N)) (front room (moved x k N) u) (front room (moved x k N) (u ++ v)) (λ y. front room y v) (front_append room (moved x k N) u v))

-- where a step leads on, the run goes on
gone_after : (k : Token) (o : Option (List Awaited)) (b : Bool) (f : List Awaited → Option State) (on : List Awaited → Option Refusal) (y : State) (r : Option Refusal) → option_and_then (λ N. if_room b (f N)) o ≡ Some y → ((N : List Awaited) → f N ≡ Some y → on N ≡ r) → gone_on k o b on ≡ r
gone_after k None b f on y r h e = absurd (none-some y h)
gone_after k (Some N) false f on y r h e = absurd (none-some y h)
gone_after k (Some N) true f on y r h e = e N h

-- what is refused after a front does not depend on how the front was read
pub run_after : (room : Room) (size : ℕ) (x y : State) (u v : List Token) → front room x u ≡ Some y → run_from room size x (u ++ v) ≡ run_from room size y v
unfolding front run
run_after room size x y [] v h = ap (λ z. run_from room size z v) (same_Some x y h)
run_after room size x y (k ∷ u) v h =
    gone_after
    k
    (step x.stack k.class)
    (roomy room (moved x k []))
    (λ N. front room (moved x k N) u)
    (λ N. run_from room size (moved x k N) (u ++ v))
    y
    (run_from room size y v)
    h
    (λ N g. run_after room size (moved x k N) y u v g)

-- at the end nothing is refused only where nothing is to come
end_none : (size : ℕ) (K : List Awaited) → at_end size K ≡ None → K ≡ []
end_none size [] h = refl
end_none size (z ∷ K) h = absurd (none-some (Refusal.Unfinished size) (sym h))

-- a step at which nothing is refused leads on
gone_none : (k : Token) (o : Option (List Awaited)) (b : Bool) (f : List Awaited → Option State) (on : List Awaited → Option Refusal) → gone_on k o b on ≡ None → ((N : List Awaited) → on N ≡ None → (y : State) × (f N ≡ Some y) × (y.stack ≡ [])) → (y : State) × (option_and_then (λ N. if_room b (f N)) o ≡ Some y) × (y.stack ≡ [])
gone_none k None b f on h e = absurd (none-some (wrong k.class k.start) (sym h))
gone_none k (Some N) false f on h e = absurd (none-some (Refusal.NoRoom k.start) (sym h))
gone_none k (Some N) true f on h e = e N h

-- where nothing is refused the tokens are a front, and nothing is still to come
pub run_none : (room : Room) (size : ℕ) (x : State) (s : List Token) → run_from room size x s ≡ None → (y : State) × (front room x s ≡ Some y) × (y.stack ≡ [])
unfolding front run
run_none room size x [] h = (x, refl, end_none size x.stack h)
run_none room size x (k ∷ s) h =
    gone_none
    k
    (step x.stack k.class)
    (roomy room (moved x k []))
    (λ N. front room (moved x k N) s)
    (λ N. run_from room size (moved x k N) s)
    h
    (λ N g. run_none room size (moved x k N) s g)

-- why a run refuses: at a token that cannot stand there, at one for which there is no room, or at the end
pub data Halts (room : Room) (size : ℕ) (x : State) (s : List Token) : Refusal → Type 0 where
  no_step : (u v : List Token) (k : Token) (y : State) → s ≡ u ++ k ∷ v → front room x u ≡ Some y → step y.stack k.class ≡ None → Halts room size x s (wrong k.class k.start)
  no_room : (u v : List Token) (k : Token) (y : State) (N : List Awaited) → s ≡ u ++ k ∷ v → front room x u ≡ Some y → step y.stack k.class ≡ Some N → roomy room (moved y k N) ≡ false → Halts room size x s (Refusal.NoRoom k.start)
  no_end : (y : State) (z : Awaited) (K : List Awaited) → front room x s ≡ Some y → y.stack ≡ z ∷ K → Halts room size x s (Refusal.Unfinished size)

module _ (room : Room) (size : ℕ) where
  -- a front that is one token longer
  pub front_more : (x y : State) (k : Token) (N : List Awaited) (u : List Token) → step x.stack k.class ≡ Some N → roomy room (moved x k N) ≡ true → front room (moved x k N) u ≡ Some y → front room x (k ∷ u) ≡ Some y
  unfolding front
  front_more x y k N u e fits h = rw (e, fits, h)

  -- a halt one token later
  halts_more : (x : State) (k : Token) (N : List Awaited) (s : List Token) (r : Refusal) → step x.stack k.class ≡ Some N → roomy room (moved x k N) ≡ true → Halts room size (moved x k N) s r → Halts room size x (k ∷ s) r
  halts_more x k N s r e fits (Halts.no_step u v j y split h g) =
      Halts.no_step (k ∷ u) v j y (ap (λ t. k ∷ t) split) (front_more x y k N u e fits h) g
  halts_more x k N s r e fits (Halts.no_room u v j y M split h g full) =
      Halts.no_room (k ∷ u) v j y M (ap (λ t. k ∷ t) split) (front_more x y k N u e fits h) g full
  halts_more x k N s r e fits (Halts.no_end y z K h g) = Halts.no_end y z K (front_more x y k N s e fits h) g

  -- at the end something is still to come
  end_some : (x : State) (K : List Awaited) (r : Refusal) → x.stack ≡ K → at_end size K ≡ Some r → Halts room size x [] r
  unfolding front
  end_some x [] r e h = absurd (none-some r h)
  end_some x (z ∷ K) r e h = subst (λ q. Halts room size x [] q) (same_Some (Refusal.Unfinished size) r h) (Halts.no_end x z K refl e)

  -- a step at which the run refuses, or after which it does
  gone_some : (x : State) (k : Token) (s : List Token) (o : Option (List Awaited)) (b : Bool) (r : Refusal) → step x.stack k.class ≡ o → roomy room (moved x k []) ≡ b → gone_on k o b (λ N. run_from room size (moved x k N) s) ≡ Some r → ((N : List Awaited) → run_from room size (moved x k N) s ≡ Some r → Halts room size (moved x k N) s r) → Halts room size x (k ∷ s) r
  unfolding front
  gone_some x k s None b r e fits h later =
      subst (λ q. Halts room size x (k ∷ s) q) (same_Some (wrong k.class k.start) r h) (Halts.no_step [] s k x refl refl e)
  gone_some x k s (Some N) false r e fits h later =
      subst (λ q. Halts room size x (k ∷ s) q) (same_Some (Refusal.NoRoom k.start) r h) (Halts.no_room [] s k x N refl refl e fits)
  gone_some x k s (Some N) true r e fits h later = halts_more x k N s r e fits (later N h)

  pub run_some : (x : State) (s : List Token) (r : Refusal) → run_from room size x s ≡ Some r → Halts room size x s r
  unfolding run
  run_some x [] r h = end_some x x.stack r refl h
  run_some x (k ∷ s) r h =
      gone_some x k s (step x.stack k.class) (roomy room (moved x k [])) r refl refl h (λ N g. run_some (moved x k N) s r g)

-- a step with room is a step
step_front : (o : Option (List Awaited)) (b : Bool) (f : List Awaited → Option State) (g : List Awaited → Option (List Awaited)) (y : State) → option_and_then (λ N. if_room b (f N)) o ≡ Some y → ((N : List Awaited) → f N ≡ Some y → g N ≡ Some y.stack) → option_and_then g o ≡ Some y.stack
step_front None b f g y h e = absurd (none-some y h)
step_front (Some N) false f g y h e = absurd (none-some y h)
step_front (Some N) true f g y h e = e N h

-- a front is one without the question of room too
pub to_come_front : (room : Room) (x y : State) (u : List Token) → front room x u ≡ Some y → to_come x.stack u ≡ Some y.stack
unfolding front to_come
to_come_front room x y [] h = ap (λ z. Some (z.stack)) (same_Some x y h)
to_come_front room x y (k ∷ u) h =
    step_front
    (step x.stack k.class)
    (roomy room (moved x k []))
    (λ N. front room (moved x k N) u)
    (λ N. to_come N u)
    y
    h
    (λ N g. to_come_front room (moved x k N) y u g)
