-- How runs are put together: turns one after the other, turns above a longer stack, and the turns of one token. Assumes nothing.
use Rattle.std.proofs.Common.{◌≡◌, ℕ, Bool, true, false, List, [], ◌∷◌, ◌++◌, Some, None, Option, refl, ap, sym, ◌∙◌, append_assoc}
use Rattle.tokens.specs.Tokens.{Token}
use Rattle.tokens.specs.declared.classes.Class.{Class}
use Rattle.recipe.specs.declared.refusals.Refusal.{Refusal}
use Rattle.notation.specs.Fitting.{Room}
use Rattle.notation.specs.Machine.{recipe_depth, recipe_used, Awaited, Used, step, used_after, depth_after, within, wrong, gone_on, run, Turns, Stops}

-- after the parenthesis of a list, what is not lambda begins the first of two recipes
call_step : (K : List Awaited) (c : Class) → (c ≡ Class.Lambda → ⊥) → step (Awaited.head ∷ K) c ≡ step (Awaited.recipe ∷ Awaited.recipe ∷ Awaited.close ∷ K) c
call_step K Class.Open n = refl
call_step K Class.Close n = refl
call_step K Class.Nil n = refl
call_step K Class.Lambda n = absurd (n refl)
call_step K Class.Name n = refl
call_step K Class.Hole n = refl
call_step K Class.Leaf n = refl
call_step K Class.Unknown n = refl

module _ (room : Room) (size : ℕ) where
  -- the run over one token, by the symbol that is to come first
  run_one : (x : Awaited) (K : List Awaited) (d : ℕ) (used : Used) (k : Token) (s : List Token) → run room size (x ∷ K) d used (k ∷ s) ≡ gone_on k (step (x ∷ K) k.class) (within room (depth_after (x ∷ []) k.class d) (used_after (x ∷ []) k.class k.bytes used)) (λ N. run room size N (depth_after (x ∷ []) k.class d) (used_after (x ∷ []) k.class k.bytes used) s)
  unfolding run
  run_one Awaited.recipe K d used k s = refl
  run_one Awaited.head K d used k s = refl
  run_one Awaited.binder_open K d used k s = refl
  run_one Awaited.binder_name K d used k s = refl
  run_one Awaited.binder_close K d used k s = refl
  run_one Awaited.close K d used k s = refl

  -- one turn after the other
  pub turn_then : {J M N : List Awaited} {d e f : ℕ} {used more most : Used} {s r q : List Token} → Turns room size J M d e used more s r → Turns room size M N e f more most r q → Turns room size J N d f used most s q
  turn_then a b = record { on = λ K. a.on K ∙ b.on K }

  -- a turn, and more to come below it
  pub turn_above : {J M : List Awaited} {d e : ℕ} {used more : Used} {s r : List Token} (N : List Awaited) → Turns room size J M d e used more s r → Turns room size (J ++ N) (M ++ N) d e used more s r
  turn_above {J = J} {M = M} {d = d} {e = e} {used = used} {more = more} {s = s} {r = r} N a =
      record {
        on =
            λ K. ap (λ X. run room size X d used s) (append_assoc J N K) ∙ a.on (N ++ K) ∙ ap (λ X. run room size X e more r) (sym (append_assoc M N K));
      }

  -- a turn, and then a refusal
  pub stop_after : {J M : List Awaited} {d e : ℕ} {used more : Used} {s r : List Token} {why : Refusal} → Turns room size J M d e used more s r → Stops room size M e more r why → Stops room size J d used s why
  stop_after a b = record { at = λ K. a.on K ∙ b.at K }

  -- a refusal, whatever more is to come below
  pub stop_above : {J : List Awaited} {d : ℕ} {used : Used} {s : List Token} {why : Refusal} (N : List Awaited) → Stops room size J d used s why → Stops room size (J ++ N) d used s why
  stop_above {J = J} {d = d} {used = used} {s = s} N a = record { at = λ K. ap (λ X. run room size X d used s) (append_assoc J N K) ∙ a.at (N ++ K) }

  module _ (x : Awaited) (d : ℕ) (used : Used) (k : Token) (s : List Token) where
    -- a token that may stand there and for which there is room
    pub turn_one : (M : List Awaited) → ((K : List Awaited) → step (x ∷ K) k.class ≡ Some (M ++ K)) → within room (depth_after (x ∷ []) k.class d) (used_after (x ∷ []) k.class k.bytes used) ≡ true → Turns room size (x ∷ []) M d (depth_after (x ∷ []) k.class d) used (used_after (x ∷ []) k.class k.bytes used) (k ∷ s) s
    turn_one M e fits = record { on = λ K. run_one x K d used k s ∙ goes (step (x ∷ K) k.class) (M ++ K) (within room (depth_after (x ∷ []) k.class d) (used_after (x ∷ []) k.class k.bytes used)) (λ N. run room size N (depth_after (x ∷ []) k.class d) (used_after (x ∷ []) k.class k.bytes used) s) (e K) fits }
      where
        goes : (o : Option (List Awaited)) (N : List Awaited) (b : Bool) (on : List Awaited → Option Refusal) → o ≡ Some N → b ≡ true → gone_on k o b on ≡ on N
        goes o N b on h g = rw (h, g)

    -- a token that may stand there, but for which there is no room
    pub stop_full : (M : List Awaited) → ((K : List Awaited) → step (x ∷ K) k.class ≡ Some (M ++ K)) → within room (depth_after (x ∷ []) k.class d) (used_after (x ∷ []) k.class k.bytes used) ≡ false → Stops room size (x ∷ []) d used (k ∷ s) (Refusal.NoRoom k.start)
    stop_full M e full = record { at = λ K. run_one x K d used k s ∙ stops (step (x ∷ K) k.class) (M ++ K) (within room (depth_after (x ∷ []) k.class d) (used_after (x ∷ []) k.class k.bytes used)) (λ N. run room size N (depth_after (x ∷ []) k.class d) (used_after (x ∷ []) k.class k.bytes used) s) (e K) full }
      where
        stops : (o : Option (List Awaited)) (N : List Awaited) (b : Bool) (on : List Awaited → Option Refusal) → o ≡ Some N → b ≡ false → gone_on k o b on ≡ Some (Refusal.NoRoom k.start)
        stops o N b on h g = rw (h, g)

    -- a token that cannot stand there
    pub stop_wrong : ((K : List Awaited) → step (x ∷ K) k.class ≡ None) → Stops room size (x ∷ []) d used (k ∷ s) (wrong k.class k.start)
    stop_wrong e = record { at = λ K. run_one x K d used k s ∙ ap (λ o. gone_on k o (within room (depth_after (x ∷ []) k.class d) (used_after (x ∷ []) k.class k.bytes used)) (λ N. run room size N (depth_after (x ∷ []) k.class d) (used_after (x ∷ []) k.class k.bytes used) s)) (e K) }

  -- the end of the text
  pub stop_end : (x : Awaited) (d : ℕ) (used : Used) → Stops room size (x ∷ []) d used [] (Refusal.Unfinished size)
  unfolding run
  stop_end x d used = record { at = λ K. refl }

  -- where nothing is to come, a token begins a recipe
  pub run_top : (d : ℕ) (used : Used) (k : Token) (s : List Token) → run room size [] d used (k ∷ s) ≡ run room size (Awaited.recipe ∷ []) d used (k ∷ s)
  unfolding run
  run_top d used k s = refl

  -- a list that does not begin with lambda is two recipes and its end
  pub turn_call : (d : ℕ) (used : Used) (k : Token) (s : List Token) → (k.class ≡ Class.Lambda → ⊥) → Turns room size (Awaited.head ∷ []) (Awaited.recipe ∷ Awaited.recipe ∷ Awaited.close ∷ []) d d used used (k ∷ s) (k ∷ s)
  unfolding run
  turn_call d used k s n =
      record {
        on =
            λ K.
            ap
            (λ o. gone_on k o (within room (recipe_depth k.class d) (recipe_used k.class k.bytes used)) (λ N. run room size N (recipe_depth k.class d) (recipe_used k.class k.bytes used) s))
            (call_step K k.class n);
      }
