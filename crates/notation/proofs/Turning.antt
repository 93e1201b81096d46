-- The turns and the refusals of single tokens, by their classes. Assumes nothing.
use Rattle.std.proofs.Common.{◌≡◌, ℕ, ◌≤◌, ◌<◌, Bool, true, false, List, [], ◌∷◌, ◌++◌, length, Some, None, subst, refl, ap, nat_le, ◌&&◌, arith}
use Rattle.tokens.specs.Tokens.{Token}
use Rattle.tokens.specs.declared.classes.Class.{Class}
use Rattle.recipe.specs.declared.refusals.Refusal.{Refusal}
use Rattle.notation.specs.declared.lent_lists.LentLists.{LentLists}
use Rattle.notation.specs.Fitting.{Room}
use Rattle.notation.specs.Machine.{Awaited, Used, step, used_after, depth_after, within, wrong, Turns, Stops}
use Rattle.notation.specs.LentLists.{Stands, Listing}
use Rattle.notation.specs.Taking.{Unexpected}
use Rattle.notation.proofs.Turned.{turn_one, stop_full, stop_wrong, stop_end}

module _ (room : Room) (size : ℕ) (x : Awaited) (d : ℕ) (used : Used) (k : Token) (s : List Token) where
  module _ (c : Class) (h : k.class ≡ c) where
    -- a token of the class may stand there, and there is room
    pub turn_class : (M : List Awaited) → ((K : List Awaited) → step (x ∷ K) c ≡ Some (M ++ K)) → within room (depth_after (x ∷ []) c d) (used_after (x ∷ []) c k.bytes used) ≡ true → Turns room size (x ∷ []) M d (depth_after (x ∷ []) c d) used (used_after (x ∷ []) c k.bytes used) (k ∷ s) s
    turn_class =
        subst
        (λ (v : Class). (M : List Awaited) → ((K : List Awaited) → step (x ∷ K) v ≡ Some (M ++ K)) → within room (depth_after (x ∷ []) v d) (used_after (x ∷ []) v k.bytes used) ≡ true → Turns room size (x ∷ []) M d (depth_after (x ∷ []) v d) used (used_after (x ∷ []) v k.bytes used) (k ∷ s) s)
        h
        (turn_one room size x d used k s)

    -- one may stand there, but there is no room
    pub full_class : (M : List Awaited) → ((K : List Awaited) → step (x ∷ K) c ≡ Some (M ++ K)) → within room (depth_after (x ∷ []) c d) (used_after (x ∷ []) c k.bytes used) ≡ false → Stops room size (x ∷ []) d used (k ∷ s) (Refusal.NoRoom k.start)
    full_class =
        subst
        (λ (v : Class). (M : List Awaited) → ((K : List Awaited) → step (x ∷ K) v ≡ Some (M ++ K)) → within room (depth_after (x ∷ []) v d) (used_after (x ∷ []) v k.bytes used) ≡ false → Stops room size (x ∷ []) d used (k ∷ s) (Refusal.NoRoom k.start))
        h
        (stop_full room size x d used k s)

    -- none may stand there
    pub wrong_class : ((K : List Awaited) → step (x ∷ K) c ≡ None) → Stops room size (x ∷ []) d used (k ∷ s) (wrong k.class k.start)
    wrong_class =
        subst
        (λ (v : Class). ((K : List Awaited) → step (x ∷ K) v ≡ None) → Stops room size (x ∷ []) d used (k ∷ s) (wrong k.class k.start))
        h
        (stop_wrong room size x d used k s)

-- where only one class may come, what is unexpected is refused
pub unexpected_stops : (room : Room) (size : ℕ) (x : Awaited) (d : ℕ) (used : Used) (class : Class) → ((c : Class) → (c ≡ class → ⊥) → (K : List Awaited) → step (x ∷ K) c ≡ None) → {s : List Token} {why : Refusal} → Unexpected size class s why → Stops room size (x ∷ []) d used s why
unexpected_stops room size x d used class only Unexpected.ends = stop_end room size x d used
unexpected_stops room size x d used class only (Unexpected.other {k = k} {s = s} n) = stop_wrong room size x d used k s (only k.class n)

pub only_open : (c : Class) → (c ≡ Class.Open → ⊥) → (K : List Awaited) → step (Awaited.binder_open ∷ K) c ≡ None
only_open Class.Open n K = absurd (n refl)
only_open Class.Close n K = refl
only_open Class.Nil n K = refl
only_open Class.Lambda n K = refl
only_open Class.Name n K = refl
only_open Class.Hole n K = refl
only_open Class.Leaf n K = refl
only_open Class.Unknown n K = refl

pub only_name : (c : Class) → (c ≡ Class.Name → ⊥) → (K : List Awaited) → step (Awaited.binder_name ∷ K) c ≡ None
only_name Class.Open n K = refl
only_name Class.Close n K = refl
only_name Class.Nil n K = refl
only_name Class.Lambda n K = refl
only_name Class.Name n K = absurd (n refl)
only_name Class.Hole n K = refl
only_name Class.Leaf n K = refl
only_name Class.Unknown n K = refl

pub only_shut : (c : Class) → (c ≡ Class.Close → ⊥) → (K : List Awaited) → step (Awaited.binder_close ∷ K) c ≡ None
only_shut Class.Open n K = refl
only_shut Class.Close n K = absurd (n refl)
only_shut Class.Nil n K = refl
only_shut Class.Lambda n K = refl
only_shut Class.Name n K = refl
only_shut Class.Hole n K = refl
only_shut Class.Leaf n K = refl
only_shut Class.Unknown n K = refl

pub only_close : (c : Class) → (c ≡ Class.Close → ⊥) → (K : List Awaited) → step (Awaited.close ∷ K) c ≡ None
only_close Class.Open n K = refl
only_close Class.Close n K = absurd (n refl)
only_close Class.Nil n K = refl
only_close Class.Lambda n K = refl
only_close Class.Name n K = refl
only_close Class.Hole n K = refl
only_close Class.Leaf n K = refl
only_close Class.Unknown n K = refl

all_five : (a b c d e : Bool) → a ≡ true → b ≡ true → c ≡ true → d ≡ true → e ≡ true → (a && (b && (c && (d && e)))) ≡ true
all_five a b c d e f g h i j = rw (f, g, h, i, j)

le_test : (a b : ℕ) → a ≤ b → nat_le a b ≡ true
le_test a b h = grind arith

gt_test : (a b : ℕ) → b < a → nat_le a b ≡ false
gt_test a b h = grind arith

false_second : (a b : Bool) → b ≡ false → (a && b) ≡ false
false_second true b e = e
false_second false b e = refl

-- what the lists stand at is within their room
pub stands_within : (most : Room) (d : ℕ) (used : Used) (f : LentLists) → Stands most used f → d ≤ 128 → within most d used ≡ true
stands_within most d used f stands h =
    all_five _ _ _ _ _ (le_test _ _ stands.places_few) (le_test _ _ (listed stands.names)) (le_test _ _ (listed stands.holes)) (le_test _ _ stands.leaves_few) (le_test _ _ h)
  where
    listed : {m : ℕ} {ns : List (List ℕ)} {list : List ℕ} {count : ℕ} → Listing m ns list count → length ns ≤ m
    listed l = omega (arith, l.counted, l.few)

-- what is too much for one list is not
module _ (most : Room) (d : ℕ) (used : Used) where
  pub places_full : most.places < used.places → within most d used ≡ false
  places_full h = ap (λ b. b && (nat_le (length used.names) most.names && (nat_le (length used.holes) most.holes && (nat_le used.leaves most.leaves && nat_le d 128)))) (gt_test used.places most.places h)

  pub names_full : most.names < length used.names → within most d used ≡ false
  names_full h = false_second (nat_le used.places most.places) _ (ap (λ b. b && (nat_le (length used.holes) most.holes && (nat_le used.leaves most.leaves && nat_le d 128))) (gt_test (length used.names) most.names h))

  pub holes_full : most.holes < length used.holes → within most d used ≡ false
  holes_full h = false_second (nat_le used.places most.places) _ (false_second (nat_le (length used.names) most.names) _ (ap (λ b. b && (nat_le used.leaves most.leaves && nat_le d 128)) (gt_test (length used.holes) most.holes h)))

  pub leaves_full : most.leaves < used.leaves → within most d used ≡ false
  leaves_full h = false_second (nat_le used.places most.places) _ (false_second (nat_le (length used.names) most.names) _ (false_second (nat_le (length used.holes) most.holes) _ (ap (λ b. b && nat_le d 128) (gt_test used.leaves most.leaves h))))

  pub too_deep : 128 < d → within most d used ≡ false
  too_deep h = false_second (nat_le used.places most.places) _ (false_second (nat_le (length used.names) most.names) _ (false_second (nat_le (length used.holes) most.holes) _ (false_second (nat_le used.leaves most.leaves) _ (gt_test d 128 h))))
