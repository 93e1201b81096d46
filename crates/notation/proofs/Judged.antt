-- The end of a run is the verdict, and there is one verdict. Assumes nothing.
use Rattle.std.proofs.Common.{◌≡◌, ℕ, Bool, true, false, ◌&&◌, List, [], ◌∷◌, ◌++◌, Some, None, Option, option_map, is_some, not, find, refl, ap, sym, subst, ◌∙◌, append-nil, inl, inr, arith, true≢false}
use Rattle.std.specs.Option.{option_or}
use Rattle.std.specs.Prelude.{option_and_then}
use Rattle.std.proofs.lemmas.Option.{none-some, same_Some}
use Rattle.tokens.specs.Tokens.{Token}
use Rattle.tokens.specs.declared.classes.Class.{Class}
use Rattle.recipe.specs.Common.{In}
use Rattle.recipe.specs.declared.refusals.Refusal.{Refusal}
use Rattle.notation.specs.Grammar.{Tree, SpellsAll}
use Rattle.notation.specs.Fitting.{Room, Fits, is_leaf, leaf_words}
use Rattle.notation.specs.Tables.{leaves_of}
use Rattle.notation.specs.Reading.{ReadAs}
use Rattle.notation.specs.Verdict.{WrongAt, FullAt, EndsInside, Refused}
use Rattle.notation.specs.Machine.{Awaited, run, unused, wrong, step, at_end, gone_on}
use Rattle.notation.proofs.Fronts.{to_come, front, State, initial, moved, roomy, if_room, Halts, run_from, run_after, run_none, run_some, to_come_append, to_come_front, front_append}
use Rattle.notation.proofs.LeavesRead.{leaves_spelled, unread_spoils}
use Rattle.notation.proofs.Rooms.{front_of, fits_of_front}
use Rattle.notation.proofs.Spelled.{recipes_read, recipes_of, begins_of, to_come_of}

-- going on with nothing
and_then_end : (o : Option (List Awaited)) → option_and_then (λ N. to_come N []) o ≡ o
unfolding to_come
and_then_end None = refl
and_then_end (Some N) = refl

-- to come after one token more
to_come_one : (u : List Token) (k : Token) (M : List Awaited) → to_come [] u ≡ Some M → to_come [] (u ++ k ∷ []) ≡ step M k.class
unfolding to_come
to_come_one u k M h =
    to_come_append [] u (k ∷ []) ∙ ap (λ o. option_and_then (λ N. to_come N (k ∷ [])) o) h ∙ and_then_end (step M k.class)

-- what came before one token more
to_come_before : (o : Option (List Awaited)) (k : Token) (N : List Awaited) → option_and_then (λ M. to_come M (k ∷ [])) o ≡ Some N → (M : List Awaited) × (o ≡ Some M) × (step M k.class ≡ Some N)
unfolding to_come
to_come_before None k N h = absurd (none-some N h)
to_come_before (Some M) k N h = (M, refl, sym (and_then_end (step M k.class)) ∙ h)

-- the state after one token more
front_one : (room : Room) (u : List Token) (k : Token) (y : State) (N : List Awaited) → front room initial u ≡ Some y → step y.stack k.class ≡ Some N → front room initial (u ++ k ∷ []) ≡ if_room (roomy room (moved y k N)) (Some (moved y k N))
unfolding front
front_one room u k y N f e =
    front_append room initial u (k ∷ []) ∙ ap (λ o. option_and_then (λ z. front room z (k ∷ [])) o) f
    ∙ ap (λ o. option_and_then (λ M. if_room (roomy room (moved y k M)) (Some (moved y k M))) o) e

-- what leads nowhere
nowhere : (o : Option (List Awaited)) → ((N : List Awaited) → o ≡ Some N → ⊥) → o ≡ None
nowhere None never = refl
nowhere (Some N) never = absurd (never N refl)

-- a word of no class
is_bad : Class → Bool
is_bad Class.Unknown = true
is_bad c = false

not_bad : {c d : Class} → c ≡ d → is_bad d ≡ false → c ≡ Class.Unknown → ⊥
unfolding is_bad
not_bad e f g = true≢false (sym (ap is_bad g) ∙ ap is_bad e ∙ f)

-- a token of any class that cannot stand there is misplaced
wrong_misplaced : (c : Class) (i : ℕ) → (c ≡ Class.Unknown → ⊥) → wrong c i ≡ Refusal.Misplaced i
wrong_misplaced Class.Open i n = refl
wrong_misplaced Class.Close i n = refl
wrong_misplaced Class.Nil i n = refl
wrong_misplaced Class.Lambda i n = refl
wrong_misplaced Class.Name i n = refl
wrong_misplaced Class.Hole i n = refl
wrong_misplaced Class.Leaf i n = refl
wrong_misplaced Class.Unknown i n = absurd (n refl)

-- a leaf word that is not read
abbrev unread_word : {L : Type 0} → (List ℕ → Option L) → Token → Bool
unread_word reads k = is_leaf k.class && not (is_some (reads k.bytes))

-- a word that is read, if it is a leaf word, is none
read_word : (c : Class) (b : Bool) → (c ≡ Class.Leaf → b ≡ true) → (is_leaf c && not b) ≡ false
read_word Class.Open b e = refl
read_word Class.Close b e = refl
read_word Class.Nil b e = refl
read_word Class.Lambda b e = refl
read_word Class.Name b e = refl
read_word Class.Hole b e = refl
read_word Class.Leaf b e = ap (λ x. not x) (e refl)
read_word Class.Unknown b e = refl

-- the first of them is found
found_first : {L : Type 0} (reads : List ℕ → Option L) (u v : List Token) (k : Token) → k.class ≡ Class.Leaf → reads k.bytes ≡ None → ((j : Token) → In j u → j.class ≡ Class.Leaf → is_some (reads j.bytes) ≡ true) → find (unread_word reads) (u ++ k ∷ v) ≡ Some k
found_first reads [] v k leaf unread first = rw (leaf, unread)
found_first reads (i ∷ u) v k leaf unread first =
    rw (read_word i.class (is_some (reads i.bytes)) (λ e. first i (inl refl) e)) (found_first reads u v k leaf unread (λ j h. first j (inr h)))

module _ (room : Room) (size : ℕ) (s : List Token) where
  -- no refusal: recipes that fit
  pub run_accepts : run room size [] 0 unused s ≡ None → ((ts : List Tree) × SpellsAll s ts) × Fits room s
  run_accepts h =
      let (y, f, e) = run_none room size initial s h in
      (recipes_of s (to_come_front room initial y s f ∙ ap (λ K. Some K) e), fits_of_front room s y f)

  -- a token that cannot stand there
  wrong_at : (u v : List Token) (k : Token) (y : State) → s ≡ u ++ k ∷ v → front room initial u ≡ Some y → step y.stack k.class ≡ None → WrongAt room s k
  wrong_at u v k y split f e =
      record {
        before = u;
        after = v;
        split = split;
        begins = begins_of u y.stack (to_come_front room initial y u f);
        fits = fits_of_front room u y f;
        wrong =
            λ b.
            let (N, g) = to_come_of b in
            none-some N (sym e ∙ sym (to_come_one u k y.stack (to_come_front room initial y u f)) ∙ g);
      }

  -- a token for which there is no room
  full_at : (u v : List Token) (k : Token) (y : State) (N : List Awaited) → s ≡ u ++ k ∷ v → front room initial u ≡ Some y → step y.stack k.class ≡ Some N → roomy room (moved y k N) ≡ false → FullAt room s k
  full_at u v k y N split f e full =
      let g = to_come_one u k y.stack (to_come_front room initial y u f) ∙ e in
      record {
        before = u;
        after = v;
        split = split;
        fits = fits_of_front room u y f;
        begins = begins_of (u ++ k ∷ []) N g;
        full =
            λ fits.
            let (z, h, i) = front_of room (u ++ k ∷ []) N g fits in
            none-some z (sym (front_one room u k y N f e ∙ ap (λ b. if_room b (Some (moved y k N))) full) ∙ h);
      }

  -- the end
  inside_at : (y : State) (z : Awaited) (K : List Awaited) → front room initial s ≡ Some y → y.stack ≡ z ∷ K → EndsInside room s
  inside_at y z K f e =
      record {
        begins = begins_of s y.stack (to_come_front room initial y s f);
        fits = fits_of_front room s y f;
        unspelled =
            λ ts spells.
            let h = same_Some [] (z ∷ K) (sym (recipes_read spells) ∙ to_come_front room initial y s f ∙ ap (λ M. Some M) e) in
            grind arith;
      }

  module _ {L : Type 0} (reads : List ℕ → Option L) where
    wrong_refused : (k : Token) (c : Class) → k.class ≡ c → WrongAt room s k → Refused room size reads s (wrong c k.start)
    unfolding is_bad
    wrong_refused k Class.Unknown e w = Refused.unknown w e
    wrong_refused k Class.Open e w = Refused.misplaced w (not_bad e refl)
    wrong_refused k Class.Close e w = Refused.misplaced w (not_bad e refl)
    wrong_refused k Class.Nil e w = Refused.misplaced w (not_bad e refl)
    wrong_refused k Class.Lambda e w = Refused.misplaced w (not_bad e refl)
    wrong_refused k Class.Name e w = Refused.misplaced w (not_bad e refl)
    wrong_refused k Class.Hole e w = Refused.misplaced w (not_bad e refl)
    wrong_refused k Class.Leaf e w = Refused.misplaced w (not_bad e refl)

    halt_refused : {r : Refusal} → Halts room size initial s r → Refused room size reads s r
    halt_refused (Halts.no_step u v k y split f e) = wrong_refused k k.class refl (wrong_at u v k y split f e)
    halt_refused (Halts.no_room u v k y N split f e full) = Refused.full (full_at u v k y N split f e full)
    halt_refused (Halts.no_end y z K f e) = Refused.unfinished (inside_at y z K f e)

    -- a refusal: the verdict, for every kind of leaves
    pub run_refuses : (r : Refusal) → run room size [] 0 unused s ≡ Some r → Refused room size reads s r
    run_refuses r h = halt_refused (run_some room size initial s r h)

  -- from a state on
  run_split : (u v : List Token) (y : State) → s ≡ u ++ v → front room initial u ≡ Some y → run room size [] 0 unused s ≡ run_from room size y v
  run_split u v y split f = ap (λ t. run room size [] 0 unused t) split ∙ run_after room size initial y u v f

  -- at the end
  run_end : (y : State) → front room initial s ≡ Some y → run room size [] 0 unused s ≡ at_end size y.stack
  unfolding run
  run_end y f = run_split s [] y (sym (append-nil s)) f

  -- recipes that fit are not refused
  pub accepted_runs : (ts : List Tree) → SpellsAll s ts → Fits room s → run room size [] 0 unused s ≡ None
  accepted_runs ts spells fits =
      let (y, f, e) = front_of room s [] (recipes_read spells) fits in
      run_end y f ∙ ap (λ K. at_end size K) e

  -- each verdict is the end of the run
  pub wrong_runs : (k : Token) → WrongAt room s k → run room size [] 0 unused s ≡ Some (wrong k.class k.start)
  unfolding run
  wrong_runs k w =
      let (K, b) = to_come_of w.begins in
      let (y, f, e) = front_of room w.before K b w.fits in
      let stuck = nowhere (step y.stack k.class) (λ N g. w.wrong (begins_of (w.before ++ k ∷ []) N (to_come_one w.before k y.stack (to_come_front room initial y w.before f) ∙ g))) in
      run_split w.before (k ∷ w.after) y w.split f
      ∙ ap (λ o. gone_on k o (roomy room (moved y k [])) (λ N. run_from room size (moved y k N) w.after)) stuck

  -- where the counts do not fit, a step has no room
  no_room : (u : List Token) (k : Token) (y : State) (N : List Awaited) (b : Bool) → roomy room (moved y k N) ≡ b → front room initial u ≡ Some y → step y.stack k.class ≡ Some N → (Fits room (u ++ k ∷ []) → ⊥) → b ≡ false
  no_room u k y N false e f h full = refl
  no_room u k y N true e f h full =
      absurd (full (fits_of_front room (u ++ k ∷ []) (moved y k N) (front_one room u k y N f h ∙ ap (λ b. if_room b (Some (moved y k N))) e)))

  pub full_runs : (k : Token) → FullAt room s k → run room size [] 0 unused s ≡ Some (Refusal.NoRoom k.start)
  unfolding run
  full_runs k w =
      let (N, b) = to_come_of w.begins in
      let (M, a, g) = to_come_before (to_come [] w.before) k N (sym (to_come_append [] w.before (k ∷ [])) ∙ b) in
      let (y, f, e) = front_of room w.before M a w.fits in
      let h = ap (λ K. step K k.class) e ∙ g in
      let full = no_room w.before k y N (roomy room (moved y k N)) refl f h w.full in
      run_split w.before (k ∷ w.after) y w.split f
      ∙ ap (λ o. gone_on k o (roomy room (moved y k [])) (λ N. run_from room size (moved y k N) w.after)) h
      ∙ ap (λ c. gone_on k (Some N) c (λ N. run_from room size (moved y k N) w.after)) full

  -- where the tokens are no recipes, something is to come at the end
  end_refused : (K : List Awaited) → to_come [] s ≡ Some K → ((ts : List Tree) → SpellsAll s ts → ⊥) → at_end size K ≡ Some (Refusal.Unfinished size)
  end_refused [] h never =
      let (ts, spells) = recipes_of s h in
      absurd (never ts spells)
  end_refused (z ∷ K) h never = refl

  pub inside_runs : EndsInside room s → run room size [] 0 unused s ≡ Some (Refusal.Unfinished size)
  inside_runs w =
      let (K, b) = to_come_of w.begins in
      let (y, f, e) = front_of room s K b w.fits in
      run_end y f ∙ end_refused y.stack (to_come_front room initial y s f) w.unspelled

  module _ {L : Type 0} (reads : List ℕ → Option L) where
    -- the end of the run, and then the first leaf word that is not read
    outcome : Option Refusal
    outcome =
        option_or (run room size [] 0 unused s) (option_map (λ k. Refusal.UnreadLeaf k.start) (find (unread_word reads) s))

    -- each verdict is that
    refused_outcome : {r : Refusal} → Refused room size reads s r → outcome ≡ Some r
    unfolding outcome
    refused_outcome (Refused.unknown {k = k} w e) =
        ap (λ o. option_or o (option_map (λ k. Refusal.UnreadLeaf k.start) (find (unread_word reads) s))) (wrong_runs k w ∙ ap (λ c. Some (wrong c k.start)) e)
    refused_outcome (Refused.misplaced {k = k} w e) =
        ap (λ o. option_or o (option_map (λ k. Refusal.UnreadLeaf k.start) (find (unread_word reads) s))) (wrong_runs k w ∙ ap (λ r. Some r) (wrong_misplaced k.class k.start e))
    refused_outcome (Refused.full {k = k} w) =
        ap (λ o. option_or o (option_map (λ k. Refusal.UnreadLeaf k.start) (find (unread_word reads) s))) (full_runs k w)
    refused_outcome (Refused.unfinished w) =
        ap (λ o. option_or o (option_map (λ k. Refusal.UnreadLeaf k.start) (find (unread_word reads) s))) (inside_runs w)
    refused_outcome (Refused.unread {k = k} w) =
        ap (λ o. option_or o (option_map (λ k. Refusal.UnreadLeaf k.start) (find (unread_word reads) s))) (accepted_runs w.trees w.spells w.fits)
        ∙ ap (λ t. option_map (λ k. Refusal.UnreadLeaf k.start) (find (unread_word reads) t)) w.split
        ∙ ap (λ o. option_map (λ k. Refusal.UnreadLeaf k.start) o) (found_first reads w.before w.after k w.leaf w.unread w.first)

    -- there is one verdict
    pub refused_once : (q r : Refusal) → Refused room size reads s q → Refused room size reads s r → q ≡ r
    refused_once q r h g = same_Some q r (sym (refused_outcome h) ∙ refused_outcome g)

    -- what is refused is not recipes that fit and are read
    pub refused_not_read : (r : Refusal) → Refused room size reads s r → (ts : List Tree) (ls : List L) → SpellsAll s ts → Fits room s → ReadAs reads (leaves_of ts) ls → ⊥
    refused_not_read r (Refused.unknown {k = k} w e) ts ls spells fits read = none-some (wrong k.class k.start) (sym (accepted_runs ts spells fits) ∙ wrong_runs k w)
    refused_not_read r (Refused.misplaced {k = k} w e) ts ls spells fits read = none-some (wrong k.class k.start) (sym (accepted_runs ts spells fits) ∙ wrong_runs k w)
    refused_not_read r (Refused.full {k = k} w) ts ls spells fits read = none-some (Refusal.NoRoom k.start) (sym (accepted_runs ts spells fits) ∙ full_runs k w)
    refused_not_read r (Refused.unfinished w) ts ls spells fits read = w.unspelled ts spells
    refused_not_read r (Refused.unread {k = k} w) ts ls spells fits read =
        unread_spoils reads w.before w.after k ls w.leaf w.unread (subst (λ q. ReadAs reads q ls) (sym (leaves_spelled spells) ∙ ap (λ t. leaf_words t) w.split) read)
