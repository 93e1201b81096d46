-- The turns of a list. Assumes nothing.
use Rattle.std.proofs.Common.{◌≡◌, ℕ, suc, pred, ◌<◌, true, List, [], ◌∷◌, refl, ap, sym, subst, arith}
use Rattle.tokens.specs.Tokens.{Token}
use Rattle.tokens.specs.declared.classes.Class.{Class}
use Rattle.recipe.specs.declared.refusals.Refusal.{Refusal}
use Rattle.notation.specs.Fitting.{Room}
use Rattle.notation.specs.Machine.{Awaited, Used, one_place, within, Turns, Stops}
use Rattle.notation.specs.Taking.{Unexpected}
use Rattle.notation.proofs.Turned.{turn_then, turn_above, stop_after, stop_above, stop_end, turn_call}
use Rattle.notation.proofs.Turning.{turn_class, full_class, unexpected_stops, only_close, places_full, too_deep}

module _ (most : Room) (size d : ℕ) (used : Used) (o : Token) (opens : o.class ≡ Class.Open) where
  -- a list that nests too deep
  pub list_deep : (s : List Token) → d ≡ 128 → Stops most size (Awaited.recipe ∷ []) d used (o ∷ s) (Refusal.NoRoom o.start)
  list_deep s h =
      full_class most size Awaited.recipe d used o s Class.Open opens (Awaited.head ∷ []) (λ K. refl) (too_deep most (suc d) (one_place used) (omega (arith, h)))

  -- one that finds no place
  pub list_full : (s : List Token) → most.places < suc used.places → Stops most size (Awaited.recipe ∷ []) d used (o ∷ s) (Refusal.NoRoom o.start)
  list_full s h =
      full_class most size Awaited.recipe d used o s Class.Open opens (Awaited.head ∷ []) (λ K. refl) (places_full most (suc d) (one_place used) h)

  module _ (e : ℕ) (deeper : e ≡ suc d) (fits : within most e (one_place used) ≡ true) where
    list_opens : (s : List Token) → Turns most size (Awaited.recipe ∷ []) (Awaited.head ∷ []) d e used (one_place used) (o ∷ s) s
    list_opens s =
        subst
        (λ n. Turns most size (Awaited.recipe ∷ []) (Awaited.head ∷ []) d n used (one_place used) (o ∷ s) s)
        (sym deeper)
        (turn_class most size Awaited.recipe d used o s Class.Open opens (Awaited.head ∷ []) (λ K. refl) (subst (λ n. within most n (one_place used) ≡ true) deeper fits))

    -- the text ends after the parenthesis
    pub list_ends : (s : List Token) → s ≡ [] → Stops most size (Awaited.recipe ∷ []) d used (o ∷ s) (Refusal.Unfinished size)
    list_ends s h = subst (λ q. Stops most size (Awaited.recipe ∷ []) d used (o ∷ q) (Refusal.Unfinished size)) (sym h) (stop_after most size (list_opens []) (stop_end most size Awaited.head e (one_place used)))

    module _ (l : Token) (lambda : l.class ≡ Class.Lambda) (s r : List Token) (left : s ≡ l ∷ r) where
      bind_opens : Turns most size (Awaited.recipe ∷ []) (Awaited.binder_open ∷ Awaited.binder_name ∷ Awaited.binder_close ∷ Awaited.recipe ∷ Awaited.close ∷ []) d e used (one_place used) (o ∷ s) r
      bind_opens =
          subst
          (λ q. Turns most size (Awaited.recipe ∷ []) (Awaited.binder_open ∷ Awaited.binder_name ∷ Awaited.binder_close ∷ Awaited.recipe ∷ Awaited.close ∷ []) d e used (one_place used) (o ∷ q) r)
          (sym left)
          (turn_then most size (list_opens (l ∷ r)) (turn_class most size Awaited.head e (one_place used) l r Class.Lambda lambda (Awaited.binder_open ∷ Awaited.binder_name ∷ Awaited.binder_close ∷ Awaited.recipe ∷ Awaited.close ∷ []) (λ K. refl) fits))

      -- a binder list that is refused
      pub bind_refused : (why : Refusal) → Stops most size (Awaited.binder_open ∷ Awaited.binder_name ∷ Awaited.binder_close ∷ []) e (one_place used) r why → Stops most size (Awaited.recipe ∷ []) d used (o ∷ s) why
      bind_refused why h = stop_after most size bind_opens (stop_above most size (Awaited.recipe ∷ Awaited.close ∷ []) h)

      -- one that is taken
      pub bind_front : (v : Used) (q : List Token) → Turns most size (Awaited.binder_open ∷ Awaited.binder_name ∷ Awaited.binder_close ∷ []) [] e e (one_place used) v r q → Turns most size (Awaited.recipe ∷ []) (Awaited.recipe ∷ Awaited.close ∷ []) d e used v (o ∷ s) q
      bind_front v q h = turn_then most size bind_opens (turn_above most size (Awaited.recipe ∷ Awaited.close ∷ []) h)

    module _ (k : Token) (other : k.class ≡ Class.Lambda → ⊥) (s r : List Token) (left : s ≡ k ∷ r) where
      call_opens : Turns most size (Awaited.recipe ∷ []) (Awaited.recipe ∷ Awaited.recipe ∷ Awaited.close ∷ []) d e used (one_place used) (o ∷ s) (k ∷ r)
      call_opens =
          subst
          (λ q. Turns most size (Awaited.recipe ∷ []) (Awaited.recipe ∷ Awaited.recipe ∷ Awaited.close ∷ []) d e used (one_place used) (o ∷ q) (k ∷ r))
          (sym left)
          (turn_then most size (list_opens (k ∷ r)) (turn_call most size e (one_place used) k r other))

      -- a first recipe that is refused
      pub call_refused : (why : Refusal) → Stops most size (Awaited.recipe ∷ []) e (one_place used) (k ∷ r) why → Stops most size (Awaited.recipe ∷ []) d used (o ∷ s) why
      call_refused why h = stop_after most size call_opens (stop_above most size (Awaited.recipe ∷ Awaited.close ∷ []) h)

      -- one that is taken
      pub call_front : (v : Used) (q : List Token) → Turns most size (Awaited.recipe ∷ []) [] e e (one_place used) v (k ∷ r) q → Turns most size (Awaited.recipe ∷ []) (Awaited.recipe ∷ Awaited.close ∷ []) d e used v (o ∷ s) q
      call_front v q h = turn_then most size call_opens (turn_above most size (Awaited.recipe ∷ Awaited.close ∷ []) h)

module _ (most : Room) (size d e : ℕ) (used v : Used) (s r : List Token) where
  module _ (front : Turns most size (Awaited.recipe ∷ []) (Awaited.recipe ∷ Awaited.close ∷ []) d e used v s r) where
    -- the text ends before the last recipe
    pub last_ends : r ≡ [] → Stops most size (Awaited.recipe ∷ []) d used s (Refusal.Unfinished size)
    last_ends h =
        stop_after most size front (subst (λ q. Stops most size (Awaited.recipe ∷ Awaited.close ∷ []) e v q (Refusal.Unfinished size)) (sym h) (stop_above most size (Awaited.close ∷ []) (stop_end most size Awaited.recipe e v)))

    module _ (q : Token) (m : List Token) (left : r ≡ q ∷ m) where
      -- it is refused
      pub last_refused : (why : Refusal) → Stops most size (Awaited.recipe ∷ []) e v (q ∷ m) why → Stops most size (Awaited.recipe ∷ []) d used s why
      last_refused why h =
          stop_after most size front (subst (λ n. Stops most size (Awaited.recipe ∷ Awaited.close ∷ []) e v n why) (sym left) (stop_above most size (Awaited.close ∷ []) h))

      -- it is taken
      pub last_taken : (w : Used) (n : List Token) → Turns most size (Awaited.recipe ∷ []) [] e e v w (q ∷ m) n → Turns most size (Awaited.recipe ∷ []) (Awaited.close ∷ []) d e used w s n
      last_taken w n h =
          turn_then most size front (subst (λ a. Turns most size (Awaited.recipe ∷ Awaited.close ∷ []) (Awaited.close ∷ []) e e v w a n) (sym left) (turn_above most size (Awaited.close ∷ []) h))

  module _ (front : Turns most size (Awaited.recipe ∷ []) (Awaited.close ∷ []) d e used v s r) where
    -- the list does not end where it has to
    pub close_refused : (why : Refusal) → Unexpected size Class.Close r why → Stops most size (Awaited.recipe ∷ []) d used s why
    close_refused why h = stop_after most size front (unexpected_stops most size Awaited.close e v Class.Close only_close h)

    -- it ends
    pub close_taken : (c : Token) → c.class ≡ Class.Close → (n : List Token) → r ≡ c ∷ n → e ≡ suc d → within most d v ≡ true → Turns most size (Awaited.recipe ∷ []) [] d d used v s n
    close_taken c shuts n left deeper fits =
        let shallower : pred e ≡ d = ap pred deeper in
        let fits_e = subst (λ a. within most a v ≡ true) (sym shallower) fits in
        let last = turn_class most size Awaited.close e v c n Class.Close shuts [] (λ K. refl) fits_e in
        subst
        (λ a. Turns most size (Awaited.recipe ∷ []) [] d a used v s n)
        shallower
        (turn_then most size front (subst (λ a. Turns most size (Awaited.close ∷ []) [] e (pred e) v v a n) (sym left) last))
