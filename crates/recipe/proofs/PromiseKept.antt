-- A right history keeps what is promised. Assumes nothing.
use Rattle.std.proofs.Common.{◌≡◌, ℕ, ◌<◌, ◌≤◌, ◌≢◌, ◌↔◌, Bool, List, [], ◌∷◌, ◌++◌, length, Some, None, Ok, Err, Result, sym, refl, ap, ◌∙◌, append_assoc, arith}
use Rattle.std.proofs.lemmas.Bool.Decides.{nat_tests}
use Rattle.std.proofs.lemmas.Option.{none-some}
use Rattle.recipe.specs.declared.labels.Finding.{Finding}
use Rattle.recipe.specs.declared.refusals.Refusal.{Refusal}
use Rattle.recipe.specs.AnswerLaws.{LookExact}
use Rattle.recipe.specs.Fillings.{Pair, Satisfiable}
use Rattle.recipe.specs.Histories.{Entry, accepted_pairs}
use Rattle.recipe.specs.Looks.{Looks, look_fault}
use Rattle.recipe.specs.Promise.{LookKept, PromiseKept, Steps, TellKept, Tellable}
use Rattle.recipe.specs.Tables.{Table, depth}
use Rattle.recipe.specs.Tells.{Decided, Tells, tell_fault}
use Rattle.recipe.proofs.AcceptedTells.{accepted_satisfiable}
use Rattle.recipe.proofs.ExactAnswers.{looks_exact}
use Rattle.recipe.proofs.UnknownSteps.{no_fault, past_fault, step_fault, unknown_found, unknown_none}
use Rattle.recipe.proofs.OneAnswer.{looks_once, tells_once}

-- a tell of places of equal depth is not refused without matching, while there are few pairs
few_tells : {L : Type 0} (T : Table L) (pairs : List Pair) (p q : ℕ) → Tellable T p q → length pairs < 512 → tell_fault T pairs p q ≡ None
few_tells T pairs p q places few = grind (arith, nat_tests, places.first, places.second, places.depths)

many_tells : {L : Type 0} (T : Table L) (pairs : List Pair) (p q : ℕ) → Tellable T p q → 512 ≤ length pairs → tell_fault T pairs p q ≡ Some Refusal.TooManyTells
many_tells T pairs p q places many = grind (arith, nat_tests, places.first, places.second, places.depths)

first_past : {L : Type 0} (T : Table L) (pairs : List Pair) (p q : ℕ) → T.size ≤ p → tell_fault T pairs p q ≡ Some (Refusal.NoSuchPlace p)
first_past T pairs p q past = grind (arith, nat_tests)

second_past : {L : Type 0} (T : Table L) (pairs : List Pair) (p q : ℕ) → p < T.size → T.size ≤ q → tell_fault T pairs p q ≡ Some (Refusal.NoSuchPlace q)
second_past T pairs p q low past = grind (arith, nat_tests)

depths_differ : {L : Type 0} (T : Table L) (pairs : List Pair) (p q : ℕ) → p < T.size → q < T.size → depth T p ≢ depth T q → tell_fault T pairs p q ≡ Some (Refusal.UnequalDepths p q)
depths_differ T pairs p q low also differ = grind (arith, nat_tests)

module _ {L : Type 0} (same : L → L → Bool) (T : Table L) (pairs : List Pair) where
  decided : (p q : ℕ) (r : Result (Unit {0}) Refusal) → tell_fault T pairs p q ≡ None → Tells same T pairs p q r → Decided same T (pairs ++ ((p, q) ∷ [])) r
  decided p q r none (Tells.refused e) = absurd (none-some _ (sym none ∙ e))
  decided p q r none (Tells.decided e d) = d

  accepted : (p q : ℕ) (r : Result (Unit {0}) Refusal) → Decided same T (pairs ++ ((p, q) ∷ [])) r → (r ≡ Ok tt) ↔ Satisfiable same T (pairs ++ ((p, q) ∷ []))
  accepted p q r (Decided.accepted f n m) = (λ e. f, λ g. refl)
  accepted p q r (Decided.clash u a b) = (λ e. absurd cc, λ f. absurd (u f))
  accepted p q r (Decided.cyclic u n a) = (λ e. absurd cc, λ f. absurd (u f))
  accepted p q r (Decided.names u n m a) = (λ e. absurd cc, λ f. absurd (u f))

  refused : (p q : ℕ) (r : Result (Unit {0}) Refusal) (e : Refusal) → Tells same T pairs p q r → tell_fault T pairs p q ≡ Some e → r ≡ Err e
  refused p q r e right fault = tells_once same T pairs p q r (Err e) right (Tells.refused fault)

  tell_kept : (p q : ℕ) (r : Result (Unit {0}) Refusal) → Tells same T pairs p q r → TellKept same T pairs p q r
  tell_kept p q r right = record {
    accepted = λ places few. accepted p q r (decided p q r (few_tells T pairs p q places few) right);
    decided = λ places few. decided p q r (few_tells T pairs p q places few) right;
    no_first = λ past. refused p q r _ right (first_past T pairs p q past);
    no_second = λ low past. refused p q r _ right (second_past T pairs p q low past);
    unequal = λ low also differ. refused p q r _ right (depths_differ T pairs p q low also differ);
    full = λ places many. refused p q r _ right (many_tells T pairs p q places many);
  }

  module _ (ls : List L) (filling : Satisfiable same T pairs) (p : ℕ) (path : List ℕ) (r : Result Finding Refusal) (right : Looks same T ls pairs p path r) where
    exact : p < T.size → Steps path → LookExact same T ls pairs p path r
    exact low steps = looks_exact same T ls pairs p path r filling (no_fault T p path low (unknown_none path (λ k h. steps k 0 h))) right

    blamed : (e : Refusal) → look_fault T p path ≡ Some e → r ≡ Err e
    blamed e fault = looks_once same T ls pairs p path r (Err e) filling right (Looks.refused fault)

    look_kept : LookKept same T ls pairs p path r
    look_kept = record {
      label = λ low steps. (exact low steps).label;
      absent = λ low steps. (exact low steps).absent;
      undecided = λ low steps. (exact low steps).undecided;
      no_place = λ past. blamed _ (past_fault T p path past);
      no_step = λ low i within high before. blamed _ (step_fault T p path i low (unknown_found path i within high before));
    }

pub promise_kept : {L : Type 0} (same : L → L → Bool) → PromiseKept same
promise_kept {L} same T ls h right =
    let filled : (before after : List Entry) → h ≡ before ++ after → Satisfiable same T (accepted_pairs before) = λ before after is. accepted_satisfiable same T ls before (λ front rest e part. right front (rest ++ after) e (is ∙ ap (λ k. k ++ after) part ∙ append_assoc front (e ∷ rest) after)) in
    record {
      answered = refl;
      tells = λ before after p q r is. tell_kept same T (accepted_pairs before) p q r (right before after (Entry.tell p q r) is);
      looks = λ before after p path r is. look_kept same T (accepted_pairs before) ls (filled before (Entry.look p path r ∷ after) is) p path r (right before after (Entry.look p path r) is);
      filled = filled;
    }
