-- The accepted tells of a right history have a common filling. Assumes nothing.
use Rattle.std.proofs.Common.{◌≡◌, Bool, List, [], ◌∷◌, ◌++◌, Ok, Err, sym, refl, ap, ◌∙◌, append_assoc}
use Rattle.std.proofs.lemmas.List.{append-nil}
use Rattle.recipe.specs.AnswerLaws.{AcceptedSatisfiable}
use Rattle.recipe.specs.Fillings.{Filling, Pair, Satisfiable}
use Rattle.recipe.specs.Histories.{Entry, RightAfter, accepted_pairs, accepted_pair}
use Rattle.recipe.specs.Recipes.{Recipe}
use Rattle.recipe.specs.Tables.{Table}
use Rattle.recipe.specs.Tells.{Decided, Tells}

-- first come the accepted tells of the first entries
pub accepted_append : (h k : List Entry) → accepted_pairs (h ++ k) ≡ accepted_pairs h ++ accepted_pairs k
accepted_append [] k = refl
accepted_append (Entry.tell p q r ∷ h) k = ap (λ ps. accepted_pair p q r ++ ps) (accepted_append h k) ∙ sym (append_assoc (accepted_pair p q r) (accepted_pairs h) (accepted_pairs k))
accepted_append (Entry.look p path r ∷ h) k = accepted_append h k
accepted_append (Entry.seal ∷ h) k = accepted_append h k

module _ {L : Type 0} (same : L → L → Bool) (T : Table L) (ls : List L) where
  -- one right entry more
  pub satisfied_more : (pairs : List Pair) (e : Entry) → Satisfiable same T pairs → RightAfter same T ls pairs e → Satisfiable same T (pairs ++ accepted_pairs (e ∷ []))
  satisfied_more pairs (Entry.tell p q (Ok u)) f (Tells.decided d (Decided.accepted g n m)) = g
  satisfied_more pairs (Entry.tell p q (Err e)) f right = rw (append-nil pairs) f
  satisfied_more pairs (Entry.look p path r) f right = rw (append-nil pairs) f
  satisfied_more pairs Entry.seal f right = rw (append-nil pairs) f

  satisfied_all : (h before : List Entry) → Satisfiable same T (accepted_pairs before) → ((front after : List Entry) (e : Entry) → h ≡ front ++ (e ∷ after) → RightAfter same T ls (accepted_pairs (before ++ front)) e) → Satisfiable same T (accepted_pairs (before ++ h))
  satisfied_all [] before f right = rw (append-nil before) f
  satisfied_all (e ∷ h) before f right =
      let here : RightAfter same T ls (accepted_pairs before) e = rw (append-nil before) at (right [] h e refl) in
      let more : Satisfiable same T (accepted_pairs (before ++ (e ∷ []))) = rw (accepted_append before (e ∷ [])) (satisfied_more (accepted_pairs before) e f here) in
      rw (← append_assoc before (e ∷ []) h) (satisfied_all h (before ++ (e ∷ [])) more (λ front after d is. rw (append_assoc before (e ∷ []) front) (right (e ∷ front) after d (ap (λ k. e ∷ k) is))))

pub accepted_satisfiable : {L : Type 0} (same : L → L → Bool) → AcceptedSatisfiable same
accepted_satisfiable {L} same T ls h right =
    let nils : Filling L = λ n. Recipe.nil in
    satisfied_all same T ls h [] (nils, λ pair i. elim i [ ]) (λ front after e is. right front after e is)
