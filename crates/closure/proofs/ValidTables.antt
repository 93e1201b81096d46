-- A valid table can be matched. Assumes nothing.
use Rattle.std.proofs.Common.{◌≡◌, ℕ, zero, suc, ◌<◌, ◌≤◌, List, [], ◌∷◌, Some, None, Option, refl, arith}
use Rattle.std.proofs.lemmas.Bool.Decides.{nat_tests}
use Rattle.std.proofs.lemmas.Option.{none-some}
use Rattle.std.specs.List.{slice_get}
use Rattle.recipe.specs.declared.places.Place.{Place}
use Rattle.recipe.specs.Checking.{above_name, name_count}
use Rattle.recipe.specs.Common.{In}
use Rattle.recipe.specs.Recipes.{Part}
use Rattle.recipe.specs.Tables.{Form, form_at, form_by, parts}
use Rattle.recipe.specs.Validity.{Valid}
use Rattle.recipe.proofs.Filled.{valid_rising}
use Rattle.closure.specs.Decision.{ValidWellFormed}
use Rattle.closure.proofs.Forms.{only}

-- the highest number of a name is that of some record
counted : (places : List Place) (p : ℕ) (x : Place) → slice_get places p ≡ Some x → above_name x ≤ name_count places
counted [] p x e = absurd (none-some x e)
counted (y ∷ ys) zero x e = let same : y ≡ x = cc in rw same (omega arith)
counted (y ∷ ys) (suc p) x e = omega (arith, counted ys p x e)

module _ {L : Type 0} (places : List Place) (ls : List L) where
  -- what stands at a place, and the record that it is read from where that has a name, a hole or a binder
  data Read (p : ℕ) : Form L → Type 0 where
    nils : Read p Form.nil
    leaves : {l : L} → Read p (Form.leaf l)
    names : (x : Place) → slice_get places p ≡ Some x → x.kind ≡ 2 → Read p (Form.name x.a)
    holes : (x : Place) → slice_get places p ≡ Some x → x.kind ≡ 3 → Read p (Form.hole x.a)
    binds : (x : Place) → slice_get places p ≡ Some x → x.kind ≡ 4 → Read p (Form.bind x.a x.b)
    calls : {c d : ℕ} → Read p (Form.call c d)

  read_kind : (p : ℕ) (x : Place) (o : Option L) (k : ℕ) → slice_get places p ≡ Some x → x.kind ≡ k → Read p (form_by o x.a x.b k)
  read_kind p x (Some l) (suc zero) at is = Read.leaves
  read_kind p x o (suc (suc zero)) at is = Read.names x at is
  read_kind p x o (suc (suc (suc zero))) at is = Read.holes x at is
  read_kind p x o (suc (suc (suc (suc zero)))) at is = Read.binds x at is
  read_kind p x o (suc (suc (suc (suc (suc zero))))) at is = Read.calls
  read_kind p x o k at is = Read.nils

  read : (p : ℕ) (o : Option Place) → slice_get places p ≡ o → Read p (form_at ls o)
  read p None at = Read.nils
  read p (Some x) at = read_kind p x (slice_get ls x.a) x.kind at refl

  module _ (m : ℕ) (high : name_count places ≤ m) (valid : Valid places ls) where
    name_below : {p x : ℕ} {f : Form L} → Read p f → f ≡ Form.name x → x < m
    name_below {p = p} {x = x} (Read.names r at is) e = let own : x ≡ r.a = cc in let low = counted places p r at in grind (arith, nat_tests)
    name_below r e = absurd cc

    hole_below : {p h : ℕ} {f : Form L} → Read p f → f ≡ Form.hole h → h < 512
    hole_below {p = p} {h = h} (Read.holes r at is) e = let own : h ≡ r.a = cc in let low = (valid.fits p r at).holes is in omega arith
    hole_below r e = absurd cc

    binder_below : {p a : ℕ} {f : Form L} (y : Part ℕ) → Read p f → In y (parts f) → y.under ≡ Some a → a < m
    binder_below {p = p} {a = a} y (Read.binds r at is) i e =
        let one = only i in
        let own : a ≡ r.a = cc in
        let low = counted places p r at in
        grind (arith, nat_tests)
    binder_below y Read.calls i e = absurd (grind arith)
    binder_below y r i e = absurd i

pub valid_well_formed : {L : Type 0} → ValidWellFormed L
valid_well_formed places ls m pairs valid high told =
    let at = λ (p : ℕ). read places ls p (slice_get places p) refl in (
      record {
        ordered = valid.ordered;
        past = (valid_rising places ls valid).past;
        names = λ p x e. name_below places ls m high valid (at p) e;
        binders = λ p a y i e. binder_below places ls m high valid y (at p) i e;
        told = told;
      },
      λ p h e. hole_below places ls m high valid (at p) e,
    )
