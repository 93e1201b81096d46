-- The answer of `look`. Assumes nothing. (docs/RULES.md, "Look")
use Rattle.std.specs.Prelude.{◌≡◌, ℕ, suc, Bool, cond, List, [], ◌∷◌, Some, None, Ok, Err, Option, Result, nat_le, nat_lt}
use Rattle.std.specs.Option.{option_map}
use Rattle.recipe.specs.declared.labels.Finding.{Finding}
use Rattle.recipe.specs.declared.labels.Label.{Label}
use Rattle.recipe.specs.declared.refusals.Refusal.{Refusal}
use Rattle.recipe.specs.Fillings.{Filling, Pair, SatisfiesAll, filled}
use Rattle.recipe.specs.Labels.{label_at}
use Rattle.recipe.specs.Numbering.{number_of}
use Rattle.recipe.specs.Tables.{Table}

-- the first index of a step above 2, if there is one
abbrev pub unknown_step : List ℕ → Option ℕ
unknown_step [] = None
unknown_step (s ∷ path) = cond (nat_lt 2 s) (Some 0) (option_map suc (unknown_step path))

-- what refuses a look without matching: a place past the end, or else an unknown step
abbrev pub look_fault : {L : Type 0} → Table L → ℕ → List ℕ → Option Refusal
look_fault T p path = cond (nat_le T.size p) (Some (Refusal.NoSuchPlace p)) (option_map Refusal.UnknownStep (unknown_step path))

-- under every filling that satisfies the pairs this is found at the path from p: a label, or none where there is no spot
abbrev pub AllHave : {L : Type 0} → (L → L → Bool) → Table L → List L → List Pair → ℕ → List ℕ → Option Label → Type 0
AllHave {L} same T ls pairs p path found =
    (θ : Filling L) → SatisfiesAll same T θ pairs → label_at (number_of same ls) (filled T θ p) path ≡ found

-- the answer to looking from p along a path after the accepted pairs, where leaves are numbered by the list ls
pub data Looks {L : Type 0} (same : L → L → Bool) (T : Table L) (ls : List L) (pairs : List Pair) (p : ℕ) (path : List ℕ) : Result Finding Refusal → Type 0 where
  refused : {e : Refusal} → look_fault T p path ≡ Some e → Looks same T ls pairs p path (Err e)
  label : {l : Label} → look_fault T p path ≡ None → AllHave same T ls pairs p path (Some l) → Looks same T ls pairs p path (Ok (Finding.Label l))
  absent : look_fault T p path ≡ None → AllHave same T ls pairs p path None → Looks same T ls pairs p path (Ok Finding.Absent)
  undecided : look_fault T p path ≡ None → ((found : Option Label) → AllHave same T ls pairs p path found → ⊥) → Looks same T ls pairs p path (Ok Finding.Open)
