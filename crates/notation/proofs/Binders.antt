-- The turns of a binder list. Assumes nothing.
use Rattle.std.proofs.Common.{◌≡◌, ℕ, ◌<◌, true, List, [], ◌∷◌, length, refl}
use Rattle.tokens.specs.Tokens.{Token}
use Rattle.tokens.specs.declared.classes.Class.{Class}
use Rattle.recipe.specs.declared.refusals.Refusal.{Refusal}
use Rattle.notation.specs.Fitting.{Room, with_word}
use Rattle.notation.specs.Machine.{Awaited, Used, one_name, within, Turns, Stops}
use Rattle.notation.specs.Taking.{Unexpected}
use Rattle.notation.proofs.Turned.{turn_then, turn_above, stop_after, stop_above}
use Rattle.notation.proofs.Turning.{turn_class, full_class, unexpected_stops, only_open, only_name, only_shut, names_full}

module _ (most : Room) (size d : ℕ) (used : Used) (fits : within most d used ≡ true) where
  pub refuse_opening : {s : List Token} {why : Refusal} → Unexpected size Class.Open s why → Stops most size (Awaited.binder_open ∷ Awaited.binder_name ∷ Awaited.binder_close ∷ []) d used s why
  refuse_opening u =
      stop_above most size (Awaited.binder_name ∷ Awaited.binder_close ∷ []) (unexpected_stops most size Awaited.binder_open d used Class.Open only_open u)

  module _ (o : Token) (opens : o.class ≡ Class.Open) where
    turn_opening : (s : List Token) → Turns most size (Awaited.binder_open ∷ Awaited.binder_name ∷ Awaited.binder_close ∷ []) (Awaited.binder_name ∷ Awaited.binder_close ∷ []) d d used used (o ∷ s) s
    turn_opening s =
        turn_above most size (Awaited.binder_name ∷ Awaited.binder_close ∷ []) (turn_class most size Awaited.binder_open d used o s Class.Open opens [] (λ K. refl) fits)

    pub refuse_name : {s : List Token} {why : Refusal} → Unexpected size Class.Name s why → Stops most size (Awaited.binder_open ∷ Awaited.binder_name ∷ Awaited.binder_close ∷ []) d used (o ∷ s) why
    refuse_name {s = s} u =
        stop_after most size (turn_opening s) (stop_above most size (Awaited.binder_close ∷ []) (unexpected_stops most size Awaited.binder_name d used Class.Name only_name u))

    module _ (k : Token) (names : k.class ≡ Class.Name) where
      pub refuse_full : (s : List Token) → most.names < length (with_word used.names k.bytes) → Stops most size (Awaited.binder_open ∷ Awaited.binder_name ∷ Awaited.binder_close ∷ []) d used (o ∷ k ∷ s) (Refusal.NoRoom k.start)
      refuse_full s full =
          stop_after
          most
          size
          (turn_opening (k ∷ s))
          (stop_above most size (Awaited.binder_close ∷ []) (full_class most size Awaited.binder_name d used k s Class.Name names [] (λ K. refl) (names_full most d (one_name k.bytes used) full)))

      module _ (fits_name : within most d (one_name k.bytes used) ≡ true) where
        turn_name : (s : List Token) → Turns most size (Awaited.binder_open ∷ Awaited.binder_name ∷ Awaited.binder_close ∷ []) (Awaited.binder_close ∷ []) d d used (one_name k.bytes used) (o ∷ k ∷ s) s
        turn_name s =
            turn_then
            most
            size
            (turn_opening (k ∷ s))
            (turn_above most size (Awaited.binder_close ∷ []) (turn_class most size Awaited.binder_name d used k s Class.Name names [] (λ K. refl) fits_name))

        pub refuse_shut : {s : List Token} {why : Refusal} → Unexpected size Class.Close s why → Stops most size (Awaited.binder_open ∷ Awaited.binder_name ∷ Awaited.binder_close ∷ []) d used (o ∷ k ∷ s) why
        refuse_shut {s = s} u =
            stop_after most size (turn_name s) (unexpected_stops most size Awaited.binder_close d (one_name k.bytes used) Class.Close only_shut u)

        pub turn_binder : (c : Token) → c.class ≡ Class.Close → (s : List Token) → Turns most size (Awaited.binder_open ∷ Awaited.binder_name ∷ Awaited.binder_close ∷ []) [] d d used (one_name k.bytes used) (o ∷ k ∷ c ∷ s) s
        turn_binder c shuts s =
            turn_then
            most
            size
            (turn_name (c ∷ s))
            (turn_class most size Awaited.binder_close d (one_name k.bytes used) c s Class.Close shuts [] (λ K. refl) fits_name)
