-- Two tables that have the same forms, with leaves that are the same in one exactly where they are in the other. Assumes nothing. (docs/RULES.md, "Other leaves")
use Rattle.std.specs.Prelude.{◌≡◌, ℕ, Bool, ◌↔◌, List, Result}
use Rattle.recipe.specs.Alike.{Alikes}
use Rattle.recipe.specs.Fillings.{Pair, Satisfiable}
use Rattle.recipe.specs.Looks.{Looks}
use Rattle.recipe.specs.Numbering.{number_of}
use Rattle.recipe.specs.Tables.{Form, Table}
use Rattle.recipe.specs.Tells.{Tells}
use Rattle.recipe.specs.declared.labels.Finding.{Finding}
use Rattle.recipe.specs.declared.refusals.Refusal.{Refusal}
use Rattle.closure.specs.Decision.{WellFormed}

-- two forms of one kind with the same numbers and parts; their leaves may differ
pub data SameForm {L M : Type 0} : Form L → Form M → Type 0 where
  nils : SameForm Form.nil Form.nil
  leaves : {l : L} {k : M} → SameForm (Form.leaf l) (Form.leaf k)
  names : {x : ℕ} → SameForm (Form.name x) (Form.name x)
  holes : {h : ℕ} → SameForm (Form.hole h) (Form.hole h)
  binds : {a c : ℕ} → SameForm (Form.bind a c) (Form.bind a c)
  calls : {c d : ℕ} → SameForm (Form.call c d) (Form.call c d)

-- two tables over lists of leaves have the same forms; any two places have leaves that are the same in one exactly where they are in the other, and a leaf has one number in both lists
pub record SameTables {L M : Type 0} (same : L → L → Bool) (other : M → M → Bool) (T : Table L) (U : Table M) (ls : List L) (ks : List M) : Type 0 where
  pub size : T.size ≡ U.size
  pub forms : (p : ℕ) → SameForm (T.form p) (U.form p)
  pub leaves : (p q : ℕ) (l n : L) (k o : M) → T.form p ≡ Form.leaf l → T.form q ≡ Form.leaf n → U.form p ≡ Form.leaf k → U.form q ≡ Form.leaf o → same l n ≡ other k o
  pub numbers : (p : ℕ) (l : L) (k : M) → T.form p ≡ Form.leaf l → U.form p ≡ Form.leaf k → number_of same ls l ≡ number_of other ks k

-- the same tells are right on both tables, the same looks after pairs that have a filling, and the same answers to whether two places are alike
pub record SameAnswers {L M : Type 0} (same : L → L → Bool) (other : M → M → Bool) (T : Table L) (U : Table M) (ls : List L) (ks : List M) (pairs : List Pair) : Type 0 where
  pub filled : Satisfiable same T pairs ↔ Satisfiable other U pairs
  pub tells : (p q : ℕ) (r : Result (Unit {0}) Refusal) → Tells same T pairs p q r ↔ Tells other U pairs p q r
  pub looks : Satisfiable same T pairs → (p : ℕ) (path : List ℕ) (r : Result Finding Refusal) → Looks same T ls pairs p path r ↔ Looks other U ks pairs p path r
  pub alikes : (p q : ℕ) (r : Result Bool Refusal) → Alikes same T p q r ↔ Alikes other U p q r

-- this holds of every table with pairs that is well formed
abbrev pub LeavesDoNotMatter : {L M : Type 0} → (L → L → Bool) → (M → M → Bool) → Type 0
LeavesDoNotMatter {L} {M} same other =
    (T : Table L) (U : Table M) (ls : List L) (ks : List M) (m : ℕ) (pairs : List Pair) → WellFormed T m pairs → SameTables same other T U ls ks → SameAnswers same other T U ls ks pairs
