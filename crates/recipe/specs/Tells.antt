-- The answer of `tell`. Assumes nothing. (docs/RULES.md, "Tell")
use Rattle.std.specs.Prelude.{◌≡◌, ℕ, ◌+◌, Bool, cond, not, List, [], ◌∷◌, ◌++◌, length, Some, None, Ok, Err, Option, Result, ◌==◌, nat_le, nat_lt}
use Rattle.recipe.specs.declared.refusals.Refusal.{Refusal}
use Rattle.recipe.specs.Common.{Least, first_that}
use Rattle.recipe.specs.Fillings.{Pair, Satisfiable, Unsatisfiable}
use Rattle.recipe.specs.Links.{Clash, ComesBack}
use Rattle.recipe.specs.Tables.{Form, Table, depth}

-- no two places clash
abbrev pub NoClash : {L : Type 0} → (L → L → Bool) → Table L → List Pair → Type 0
NoClash same T pairs = (p q : ℕ) → Clash same T pairs p q → ⊥

-- no place comes back to itself
abbrev pub NoCycle : {L : Type 0} → Table L → List Pair → Type 0
NoCycle T pairs = (p : ℕ) → ComesBack T pairs p → ⊥

-- the form at the place q, with a name turned into a new hole if q is a higher place than p
abbrev pub name_as_hole : {L : Type 0} → ℕ → ℕ → Form L → Form L
name_as_hole p q Form.nil = Form.nil
name_as_hole p q (Form.leaf l) = Form.leaf l
name_as_hole p q (Form.name x) = cond (nat_lt p q) (Form.hole (512 + q)) (Form.name x)
name_as_hole p q (Form.hole h) = Form.hole h
name_as_hole p q (Form.bind a c) = Form.bind a c
name_as_hole p q (Form.call c d) = Form.call c d

-- the table with a new hole for each name at a higher place than p
abbrev pub names_as_holes : {L : Type 0} → ℕ → Table L → Table L
names_as_holes p T = record { size = T.size; form = λ q. name_as_hole p q (T.form q) }

-- p is a name place, and no filling exists even with a new hole for each name at a higher place
pub record FailsUpTo {L : Type 0} (same : L → L → Bool) (T : Table L) (pairs : List Pair) (p : ℕ) : Type 0 where
  pub named : (x : ℕ) × (T.form p ≡ Form.name x)
  pub never : Unsatisfiable same (names_as_holes p T) pairs

-- what a list of pairs comes to: it is accepted exactly where a filling exists, and else refused with the first of three causes and the places that it carries
pub data Decided {L : Type 0} (same : L → L → Bool) (T : Table L) (pairs : List Pair) : Result (Unit {0}) Refusal → Type 0 where
  accepted : Satisfiable same T pairs → NoClash same T pairs → NoCycle T pairs → Decided same T pairs (Ok tt)
  clash : {a b : ℕ} → Unsatisfiable same T pairs → Least (λ p. (q : ℕ) × Clash same T pairs p q) a → Least (Clash same T pairs a) b → Decided same T pairs (Err (Refusal.Clash a b))
  cyclic : {a : ℕ} → Unsatisfiable same T pairs → NoClash same T pairs → Least (ComesBack T pairs) a → Decided same T pairs (Err (Refusal.Cyclic a))
  names : {a : ℕ} → Unsatisfiable same T pairs → NoClash same T pairs → NoCycle T pairs → Least (FailsUpTo same T pairs) a → Decided same T pairs (Err (Refusal.NamesDisagree a))

-- what refuses a tell without matching, in the order of the tests
abbrev pub tell_fault : {L : Type 0} → Table L → List Pair → ℕ → ℕ → Option Refusal
tell_fault T pairs p q =
    first_that ((nat_le T.size p, Refusal.NoSuchPlace p) ∷ (nat_le T.size q, Refusal.NoSuchPlace q) ∷ (not (depth T p == depth T q), Refusal.UnequalDepths p q) ∷ (nat_le 512 (length pairs), Refusal.TooManyTells) ∷ [])

-- the answer to telling p and q after the accepted pairs
pub data Tells {L : Type 0} (same : L → L → Bool) (T : Table L) (pairs : List Pair) (p q : ℕ) : Result (Unit {0}) Refusal → Type 0 where
  refused : {e : Refusal} → tell_fault T pairs p q ≡ Some e → Tells same T pairs p q (Err e)
  decided : {r : Result (Unit {0}) Refusal} → tell_fault T pairs p q ≡ None → Decided same T (pairs ++ ((p, q) ∷ [])) r → Tells same T pairs p q r
