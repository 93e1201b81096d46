-- What every list of calls on a sheet is promised, in terms of fillings. Assumes nothing. (docs/RULES.md, "The promise")
use Rattle.std.specs.Prelude.{◌≡◌, ℕ, ◌<◌, ◌≤◌, ◌≢◌, ◌↔◌, All, Bool, List, [], ◌∷◌, ◌++◌, length, map, slice_index, Some, None, Ok, Err, Option, Result}
use Rattle.recipe.specs.declared.labels.Finding.{Finding}
use Rattle.recipe.specs.declared.labels.Label.{Label}
use Rattle.recipe.specs.declared.refusals.Refusal.{Refusal}
use Rattle.recipe.specs.Fillings.{Pair, Satisfiable}
use Rattle.recipe.specs.Histories.{Entry, Request, Right, accepted_pairs, request}
use Rattle.recipe.specs.Looks.{AllHave}
use Rattle.recipe.specs.Tables.{Table, depth}
use Rattle.recipe.specs.Tells.{Decided}

-- each step of the path is 0, 1 or 2
abbrev pub Steps : List ℕ → Type 0
Steps path = All (λ s. s ≤ 2) path

-- two places that a tell may name: places of the table, of equal depth
pub record Tellable {L : Type 0} (T : Table L) (p q : ℕ) : Type 0 where
  pub first : p < T.size
  pub second : q < T.size
  pub depths : depth T p ≡ depth T q

-- the answer to a tell, after the pairs accepted before it
pub record TellKept {L : Type 0} (same : L → L → Bool) (T : Table L) (pairs : List Pair) (p q : ℕ) (r : Result (Unit {0}) Refusal) : Type 0 where
  -- with fewer than 512 pairs before it, accepted exactly where one filling satisfies it and all of them
  pub accepted : Tellable T p q → length pairs < 512 → (r ≡ Ok tt) ↔ Satisfiable same T (pairs ++ ((p, q) ∷ []))
  -- that is, decided by the rules of the causes: else refused with the first cause and its places
  pub decided : Tellable T p q → length pairs < 512 → Decided same T (pairs ++ ((p, q) ∷ [])) r
  -- any other tell is refused by its number
  pub no_first : T.size ≤ p → r ≡ Err (Refusal.NoSuchPlace p)
  pub no_second : p < T.size → T.size ≤ q → r ≡ Err (Refusal.NoSuchPlace q)
  pub unequal : p < T.size → q < T.size → depth T p ≢ depth T q → r ≡ Err (Refusal.UnequalDepths p q)
  pub full : Tellable T p q → 512 ≤ length pairs → r ≡ Err Refusal.TooManyTells

-- the answer to a look, after the pairs accepted before it
pub record LookKept {L : Type 0} (same : L → L → Bool) (T : Table L) (ls : List L) (pairs : List Pair) (p : ℕ) (path : List ℕ) (r : Result Finding Refusal) : Type 0 where
  -- a label exactly where the spot has it under every filling that satisfies the pairs
  pub label : p < T.size → Steps path → (l : Label) → (r ≡ Ok (Finding.Label l)) ↔ AllHave same T ls pairs p path (Some l)
  -- absent exactly where under none of them there is the spot
  pub absent : p < T.size → Steps path → (r ≡ Ok Finding.Absent) ↔ AllHave same T ls pairs p path None
  -- and open in all other cases
  pub undecided : p < T.size → Steps path → (r ≡ Ok Finding.Open) ↔ ((found : Option Label) → AllHave same T ls pairs p path found → ⊥)
  -- any other look is refused by its number
  pub no_place : T.size ≤ p → r ≡ Err (Refusal.NoSuchPlace p)
  pub no_step : p < T.size → (i : ℕ) → i < length path → 2 < slice_index path i → ((k : ℕ) → k < i → slice_index path k ≤ 2) → r ≡ Err (Refusal.UnknownStep i)

-- the answers to a list of calls, each after the tells accepted before it
pub record Promised {L : Type 0} (same : L → L → Bool) (T : Table L) (ls : List L) (calls : List Request) (h : List Entry) : Type 0 where
  -- each call is answered, in order
  pub answered : map request h ≡ calls
  pub tells : (before after : List Entry) (p q : ℕ) (r : Result (Unit {0}) Refusal) → h ≡ before ++ (Entry.tell p q r ∷ after) → TellKept same T (accepted_pairs before) p q r
  pub looks : (before after : List Entry) (p : ℕ) (path : List ℕ) (r : Result Finding Refusal) → h ≡ before ++ (Entry.look p path r ∷ after) → LookKept same T ls (accepted_pairs before) p path r
  -- the accepted pairs always have a filling in common
  pub filled : (before after : List Entry) → h ≡ before ++ after → Satisfiable same T (accepted_pairs before)

-- this holds of every right history
abbrev pub PromiseKept : {L : Type 0} → (L → L → Bool) → Type 0
PromiseKept {L} same = (T : Table L) (ls : List L) (h : List Entry) → Right same T ls h → Promised same T ls (map request h) h
