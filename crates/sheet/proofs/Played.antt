-- Calls that are made one after the other. Assumes nothing.
use Rattle.std.proofs.Common.{◌≡◌, ℕ, ◌+◌, ◌<◌, Bool, List, [], ◌∷◌, ◌++◌, length, take, map, nat_eq, get_or, set, sym, ap, ◌∙◌, subst, refl, append_assoc, length-set}
use Rattle.std.proofs.lemmas.List.{append-nil, map-append, take_more_set}
use Rattle.std.proofs.lemmas.Simd.{map-map}
use lib.Seq.{map-set_same}
use Rattle.recipe.specs.Fillings.{Pair}
use Rattle.recipe.specs.Histories.{Entry, accepted_pairs, request}
use Rattle.recipe.specs.Tables.{Table}
use Rattle.recipe.proofs.AcceptedTells.{accepted_append}
use Rattle.sheet.specs.Calls.{look_entry}
use Rattle.sheet.specs.Playing.{AllRightOn, RightEntries, RightOn, told_more}
use Rattle.sheet.specs.Sheet.{Sheet}
use Rattle.sheet.specs.declared.calls.Look.{Look}

-- right answers after right answers
pub right_append : {L : Type 0} (same : L → L → Bool) (T : Table L) (ls : List L) (pairs : List Pair) (h k : List Entry) → RightEntries same T ls pairs h → RightEntries same T ls (pairs ++ accepted_pairs h) k → RightEntries same T ls pairs (h ++ k)
right_append same T ls pairs [] k right more = subst (λ ps. RightEntries same T ls ps k) (append-nil pairs) more
right_append same T ls pairs (e ∷ h) k right more =
    let split : pairs ++ accepted_pairs (e ∷ h) ≡ (pairs ++ accepted_pairs (e ∷ [])) ++ accepted_pairs h = ap (λ ps. pairs ++ ps) (accepted_append (e ∷ []) h) ∙ sym (append_assoc pairs (accepted_pairs (e ∷ [])) (accepted_pairs h)) in
    (right.0, right_append same T ls (pairs ++ accepted_pairs (e ∷ [])) h k right.1 (subst (λ ps. RightEntries same T ls ps k) split more))

-- a sheet with the tells of some entries, and then of others
pub told_append : (s : Sheet) (h k : List Entry) → told_more (told_more s h) k ≡ told_more s (h ++ k)
told_append s h k = ap (λ told. record s { told = told }) (append_assoc s.told (accepted_pairs h) (accepted_pairs k) ∙ ap (λ ps. s.told ++ ps) (sym (accepted_append h k)))

module _ {C : Type 0} (entry : C → Entry) (start : Sheet) (old : List C) where
  -- the first k calls are made
  pub record Played (k : ℕ) (now : List C) (s : Sheet) : Type 0 where
    pub long : length now ≡ length old
    pub asked : map request (map entry now) ≡ map request (map entry old)
    pub right : AllRightOn start (map entry (take k now))
    pub is : s ≡ told_more start (map entry (take k now))

  -- before the first
  pub played_none : Played 0 old start
  played_none = record { long = refl; asked = refl; right = tt; is = ap (λ told. record start { told = told }) (sym (append-nil start.told)) }

  -- one call more
  pub played_more : {k : ℕ} {now : List C} {s : Sheet} → Played k now s → k < length now → (d new : C) (t : Sheet) → request (entry new) ≡ request (entry (get_or now k d)) → RightOn s (entry new) → t ≡ told_more s (entry new ∷ []) → Played (k + 1) (set now k new) t
  played_more {k = k} {now = now} {s = s} so low d new t same right is =
      let before : List Entry = map entry (take k now) in
      let front : map entry (take (k + 1) (set now k new)) ≡ before ++ (entry new ∷ []) = ap (map entry) (take_more_set now k new low) ∙ map-append entry (take k now) (new ∷ []) in
      let here : RightOn (told_more start before) (entry new) = subst (λ u. RightOn u (entry new)) so.is right in
      record {
        long = length-set now k new ∙ so.long;
        asked = map-map request entry (set now k new) ∙ map-set_same (λ c. request (entry c)) now k new d same ∙ sym (map-map request entry now) ∙ so.asked;
        right = rw front (right_append nat_eq _ _ start.told before (entry new ∷ []) so.right (here, tt));
        is = is ∙ ap (λ u. told_more u (entry new ∷ [])) so.is ∙ told_append start before (entry new ∷ []) ∙ ap (told_more start) (sym front);
      }

-- looks tell nothing
pub looks_untold : (looks : List Look) → accepted_pairs (map look_entry looks) ≡ []
looks_untold [] = refl
looks_untold (l ∷ looks) = looks_untold looks

pub look_untold : (s : Sheet) (l : Look) → s ≡ told_more s (look_entry l ∷ [])
look_untold s l = ap (λ told. record s { told = told }) (sym (append-nil s.told))
