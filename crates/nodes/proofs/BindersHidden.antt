-- Joining the name of each bind with nowhere. Assumes nothing.
use Rattle.std.proofs.Common.{◌≡◌, ℕ, suc, ◌+◌, ◌*◌, ◌<◌, ◌⊎◌, List, length, Some, None, Option, refl, sym, ◌∙◌, inl, inr, arith}
use Rattle.std.proofs.lemmas.Bool.{cases_lt}
use Rattle.std.proofs.lemmas.Option.{none-some}
use Rattle.recipe.specs.Fillings.{Pair}
use Rattle.recipe.specs.Recipes.{inside}
use Rattle.recipe.specs.Tables.{Form, Table}
use Rattle.closure.specs.Closures.{Closure}
use Rattle.closure.specs.Names.{NamesHeld, Node}
use Rattle.closure.proofs.Forms.{bind_inside}
use Rattle.forest.specs.Exact.{OneMore}
use Rattle.nodes.specs.NameClasses.{InTable, NumbersJoined, node_number}
use Rattle.nodes.specs.NameSteps.{BinderBelow, BindersFew, NamesAlways, binder_of_form}
use Rattle.nodes.specs.Records.{written, written_form}
use Rattle.nodes.proofs.FirstRows.{form_written}
use Rattle.nodes.proofs.NamesMore.{names_more, names_said}

module _ {L : Type 0} where
  -- a form with a binder is a bind
  bound_form : (f : Form L) (a : ℕ) → binder_of_form f ≡ Some a → (c : ℕ) × (f ≡ Form.bind a c)
  bound_form (Form.bind b c) a e = (c, cc)
  bound_form f a e = absurd (cc)

module _ {L : Type 0} (T : Table L) (m : ℕ) where
  -- so the name of a bind is below m
  pub binder_few : BindersFew T m → (p x : ℕ) → binder_of_form (T.form p) ≡ Some x → x < m
  binder_few few p x here = let (c, is) = bound_form (T.form p) x here in few p x (inside x c) (bind_inside (T.form p) x c is) refl

  module _ (p : ℕ) where
    below_skip : binder_of_form (T.form p) ≡ None → (a b : Node) → BinderBelow T (p + 1) a b → BinderBelow T p a b
    below_skip none a b (BinderBelow.own {p = q} {a = x} low e) = elim (cases_lt q p) [
      | inl l ↦ BinderBelow.own l e
      | inr past ↦ let is : q ≡ p = omega arith in absurd (none-some x (sym none ∙ rw is at e))
    ]

    -- a place that is no bind
    pub binders_skip : (rows : List ℕ) → binder_of_form (T.form p) ≡ None → NamesAlways T m (BinderBelow T p) rows → NamesAlways T m (BinderBelow T (p + 1)) rows
    binders_skip rows none below told = let some = below told in names_said T m told some (λ a b h. some.done a b (below_skip none a b h))

    below_more_binder : (x : ℕ) → binder_of_form (T.form p) ≡ Some x → (a b : Node) → BinderBelow T (p + 1) a b → BinderBelow T p a b ⊎ ((node_number m a ≡ suc (p * m + x)) × (node_number m b ≡ 0))
    below_more_binder x here a b (BinderBelow.own {p = q} {a = y} low e) = elim (cases_lt q p) [
      | inl l ↦ inl (BinderBelow.own l e)
      | inr past ↦
          let is : q ≡ p = omega arith in
          let f : ◌≡◌ {A = Option ℕ} (Some x) (Some y) = sym here ∙ rw is at e in
          let same : y ≡ x = cc in inr (rw (is, same) (refl, refl))
    ]

    own_joined : BindersFew T m → (x : ℕ) → p < T.size → binder_of_form (T.form p) ≡ Some x → (told : List Pair) → NumbersJoined T m told (suc (p * m + x)) 0
    own_joined few x low here told =
        record {
          first = Node.name p x;
          second = Node.nowhere;
          first_in = InTable.name low (binder_few few p x here);
          second_in = InTable.nowhere;
          first_is = refl;
          second_is = refl;
          joined = Closure.held (NamesHeld.own_binder (bound_form (T.form p) x here).1);
        }

    -- the name of a bind, joined with nowhere
    pub binders_more : BindersFew T m → (old new : List ℕ) (x : ℕ) → length new ≡ length old → p < T.size → binder_of_form (T.form p) ≡ Some x → OneMore (suc (p * m + x)) 0 old new → NamesAlways T m (BinderBelow T p) old → NamesAlways T m (BinderBelow T (p + 1)) new
    binders_more few old new x long low here more below told = names_more T m told (below told) long (own_joined few x low here told) more (below_more_binder x here)

-- the binder of a written form is that of the table
pub written_binder : (n : ℕ) (ws : List ℕ) (p : ℕ) (r : Option ℕ) → p < n → binder_of_form (written_form ws p) ≡ r → binder_of_form ((written n ws).form p) ≡ r
written_binder n ws p r low e = rw (form_written n ws p low) e
