-- Laws of the answers: each is right exactly where its rule applies, at most one is right, and the accepted tells of a right history have a common filling. Assumes nothing. (docs/RULES.md, "Histories")
use Rattle.std.specs.Prelude.{◌≡◌, ℕ, Bool, ◌↔◌, List, [], ◌∷◌, ◌++◌, Some, None, Ok, Err, Option, Result}
use Rattle.recipe.specs.declared.labels.Finding.{Finding}
use Rattle.recipe.specs.declared.labels.Label.{Label}
use Rattle.recipe.specs.declared.refusals.Refusal.{Refusal}
use Rattle.recipe.specs.Fillings.{Pair, Satisfiable, Unsatisfiable}
use Rattle.recipe.specs.Histories.{Entry, Right, accepted_pairs}
use Rattle.recipe.specs.Links.{Clash, ComesBack}
use Rattle.recipe.specs.Looks.{AllHave, Looks, look_fault}
use Rattle.recipe.specs.Refusals.{number_of_refusal}
use Rattle.recipe.specs.Tables.{Table}
use Rattle.recipe.specs.Tells.{NoClash, NoCycle, Tells, tell_fault}

-- at most one answer to a tell is right
abbrev pub TellsOnce : {L : Type 0} → (L → L → Bool) → Type 0
TellsOnce {L} same =
    (T : Table L) (pairs : List Pair) (p q : ℕ) (r s : Result (Unit {0}) Refusal) → Tells same T pairs p q r → Tells same T pairs p q s → r ≡ s

-- at most one answer to a look is right, where a filling satisfies the pairs
abbrev pub LooksOnce : {L : Type 0} → (L → L → Bool) → Type 0
LooksOnce {L} same =
    (T : Table L) (ls : List L) (pairs : List Pair) (p : ℕ) (path : List ℕ) (r s : Result Finding Refusal) → Satisfiable same T pairs → Looks same T ls pairs p path r → Looks same T ls pairs p path s → r ≡ s

-- one filling satisfies all accepted tells of a right history
abbrev pub AcceptedSatisfiable : {L : Type 0} → (L → L → Bool) → Type 0
AcceptedSatisfiable {L} same = (T : Table L) (ls : List L) (h : List Entry) → Right same T ls h → Satisfiable same T (accepted_pairs h)

-- 0 for an accepted tell, and else the number of the refusal
abbrev pub answer_number : Result (Unit {0}) Refusal → ℕ
answer_number (Ok u) = 0
answer_number (Err e) = number_of_refusal e

-- what the number of an answer says of the pairs
pub record TellExact {L : Type 0} (same : L → L → Bool) (T : Table L) (pairs : List Pair) (r : Result (Unit {0}) Refusal) : Type 0 where
  pub accepts : (answer_number r ≡ 0) ↔ Satisfiable same T pairs
  pub clashes : (answer_number r ≡ 14) ↔ ((p q : ℕ) × Clash same T pairs p q)
  pub comes_back : (answer_number r ≡ 15) ↔ (NoClash same T pairs × ((p : ℕ) × ComesBack T pairs p))
  pub disagrees : (answer_number r ≡ 16) ↔ (NoClash same T pairs × NoCycle T pairs × Unsatisfiable same T pairs)

-- a tell that is not refused without matching is answered exactly by what holds of the pairs with the new one
abbrev pub TellsExact : {L : Type 0} → (L → L → Bool) → Type 0
TellsExact {L} same =
    (T : Table L) (pairs : List Pair) (p q : ℕ) (r : Result (Unit {0}) Refusal) → tell_fault T pairs p q ≡ None → Tells same T pairs p q r → TellExact same T (pairs ++ ((p, q) ∷ [])) r

-- what a finding says of the fillings
pub record LookExact {L : Type 0} (same : L → L → Bool) (T : Table L) (ls : List L) (pairs : List Pair) (p : ℕ) (path : List ℕ) (r : Result Finding Refusal) : Type 0 where
  pub label : (l : Label) → (r ≡ Ok (Finding.Label l)) ↔ AllHave same T ls pairs p path (Some l)
  pub absent : (r ≡ Ok Finding.Absent) ↔ AllHave same T ls pairs p path None
  pub undecided : (r ≡ Ok Finding.Open) ↔ ((found : Option Label) → AllHave same T ls pairs p path found → ⊥)

-- a look that is not refused is answered exactly by what all satisfying fillings have, where there is one
abbrev pub LooksExact : {L : Type 0} → (L → L → Bool) → Type 0
LooksExact {L} same =
    (T : Table L) (ls : List L) (pairs : List Pair) (p : ℕ) (path : List ℕ) (r : Result Finding Refusal) → Satisfiable same T pairs → look_fault T p path ≡ None → Looks same T ls pairs p path r → LookExact same T ls pairs p path r
