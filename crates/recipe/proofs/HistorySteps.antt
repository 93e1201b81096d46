-- A history is right where each answer is, one after the other. Assumes nothing.
use Rattle.std.proofs.Common.{◌≡◌, ℕ, Bool, List, [], ◌∷◌, ◌++◌, append_assoc, arith}
use Rattle.std.proofs.lemmas.List.{append-nil}
use Rattle.recipe.specs.Histories.{Entry, RightAfter, Right, accepted_pairs}
use Rattle.recipe.specs.Tables.{Table}

module _ {L : Type 0} (same : L → L → Bool) (T : Table L) (ls : List L) where
  -- the answers of h are right after the entries before
  abbrev pub RightFrom : List Entry → List Entry → Type 0
  RightFrom before [] = Unit {0}
  RightFrom before (e ∷ h) = RightAfter same T ls (accepted_pairs before) e × RightFrom (before ++ (e ∷ [])) h

  right_at : (h before front after : List Entry) (e : Entry) → RightFrom before h → h ≡ front ++ (e ∷ after) → RightAfter same T ls (accepted_pairs (before ++ front)) e
  right_at [] before [] after e r eq = let z : ◌≡◌ {A = ℕ} 0 1 = cc in absurd (omega arith)
  right_at [] before (y ∷ front) after e r eq = let z : ◌≡◌ {A = ℕ} 0 1 = cc in absurd (omega arith)
  right_at (x ∷ h) before [] after e r eq =
      let is : x ≡ e = cc in
      rw (append-nil before, ← is) r.0
  right_at (x ∷ h) before (y ∷ front) after e r eq =
      let is : x ≡ y = cc in
      let rest : h ≡ front ++ (e ∷ after) = cc in
      rw (← is, ← append_assoc before (x ∷ []) front) (right_at h (before ++ (x ∷ [])) front after e r.1 rest)

  pub right_from : (h : List Entry) → RightFrom [] h → Right same T ls h
  right_from h r before after e eq = right_at h [] before after e r eq
