-- The parts of a form, read by their steps. Assumes nothing.
use Rattle.std.proofs.Common.{◌≡◌, ℕ, zero, suc, ◌+◌, ◌*◌, ◌<◌, Bool, true, false, cond, eqb, List, [], ◌∷◌, Some, None, Option, slice_index, refl, inl, inr, arith}
use Rattle.std.proofs.lemmas.Bool.{eqb-true}
use Rattle.std.proofs.lemmas.Option.{none-some}
use Rattle.std.specs.Option.{option_map}
use Rattle.recipe.specs.Common.{In}
use Rattle.recipe.specs.Labels.{part_at}
use Rattle.recipe.specs.Recipes.{Part}
use Rattle.recipe.specs.Tables.{Form, form_by, parts}
use Rattle.nodes.specs.Records.{written_form}
use Rattle.nodes.specs.Starting.{written_part}

-- what stands at the step, among some parts
abbrev at_step : ℕ → List (Part ℕ) → Option ℕ
at_step step xs = option_map (λ y. y.at) (part_at step xs)

-- c is the part of the step
abbrev PartAt : ℕ → ℕ → List (Part ℕ) → Type 0
PartAt step c xs = (y : Part ℕ) × In y xs × (y.step ≡ step) × (y.at ≡ c)

-- one step of `part_found`
found_more : (step c : ℕ) (x : Part ℕ) (xs : List (Part ℕ)) (b : Bool) → eqb x.step step ≡ b → option_map (λ y. y.at) (cond b (Some x) (part_at step xs)) ≡ Some c → (at_step step xs ≡ Some c → PartAt step c xs) → PartAt step c (x ∷ xs)
found_more step c x xs true is e rest = (x, inl refl, eqb-true x.step step is, cc)
found_more step c x xs false is e rest = let (y, i, at, by) = rest e in (y, inr i, at, by)

-- what is found at a step is one of the parts, and has the step
pub part_found : (xs : List (Part ℕ)) (step c : ℕ) → option_map (λ y. y.at) (part_at step xs) ≡ Some c → (y : Part ℕ) × In y xs × (y.step ≡ step) × (y.at ≡ c)
part_found [] step c e = absurd (none-some c e)
part_found (x ∷ xs) step c e = found_more step c x xs (eqb x.step step) refl e (part_found xs step c)

module _ {L : Type 0} where
  -- each part of a form is the one at its step, one of three
  pub part_is_found : (f : Form L) (x : Part ℕ) → In x (parts f) → (x.step < 3) × (option_map (λ y. y.at) (part_at x.step (parts f)) ≡ Some x.at)
  part_is_found Form.nil x i = absurd i
  part_is_found (Form.leaf l) x i = absurd i
  part_is_found (Form.name n) x i = absurd i
  part_is_found (Form.hole h) x i = absurd i
  part_is_found (Form.bind a c) x (inl e) = rw e (omega arith, refl)
  part_is_found (Form.bind a c) x (inr i) = absurd i
  part_is_found (Form.call c d) x (inl e) = rw e (omega arith, refl)
  part_is_found (Form.call c d) x (inr (inl e)) = rw e (omega arith, refl)
  part_is_found (Form.call c d) x (inr (inr i)) = absurd i

-- a form that is a hole is made with its number
hole_number : (one : Option ℕ) (a b kind h : ℕ) → form_by one a b kind ≡ Form.hole h → a ≡ h
hole_number one a b zero h e = cc
hole_number None a b (suc zero) h e = cc
hole_number (Some l) a b (suc zero) h e = cc
hole_number one a b (suc (suc zero)) h e = cc
hole_number one a b (suc (suc (suc zero))) h e = cc
hole_number one a b (suc (suc (suc (suc zero)))) h e = cc
hole_number one a b (suc (suc (suc (suc (suc zero))))) h e = cc
hole_number one a b (suc (suc (suc (suc (suc (suc k)))))) h e = cc

module _ (ws : List ℕ) (p : ℕ) where
  -- the number of a written hole
  pub written_hole : (h : ℕ) → written_form ws p ≡ Form.hole h → slice_index ws (8 * p + 1) ≡ h
  written_hole h e = hole_number (Some (slice_index ws (8 * p + 1))) (slice_index ws (8 * p + 1)) (slice_index ws (8 * p + 2)) (slice_index ws (8 * p)) h e

  -- the parts of a written bind or call
  pub written_inside : slice_index ws (8 * p) ≡ 4 → written_part ws p 2 ≡ Some (slice_index ws (8 * p + 2))
  written_inside e = rw e refl

  pub written_left : slice_index ws (8 * p) ≡ 5 → written_part ws p 0 ≡ Some (slice_index ws (8 * p + 1))
  written_left e = rw e refl

  pub written_right : slice_index ws (8 * p) ≡ 5 → written_part ws p 1 ≡ Some (slice_index ws (8 * p + 2))
  written_right e = rw e refl
