-- How a worked example is shown: one filling that satisfies the pairs, or one that gives them one shape. Assumes nothing.
use Rattle.std.proofs.Common.{◌≡◌, ℕ, zero, suc, ◌+◌, ◌≤◌, Bool, true, not, ◌&&◌, eqb, List, [], ◌∷◌, Ok, Err, sym, refl, ap, ◌∙◌, subst, inl, inr, arith}
use Rattle.std.proofs.lemmas.Bool.{and_parts, eqb-false, not-true}
use Rattle.leaves.specs.CrossProducts.{rate_sameness}
use Rattle.leaves.specs.Rates.{same_rate}
use Rattle.leaves.specs.declared.rate.Rate.{Rate}
use Rattle.recipe.proofs.Filled.{Rising}
use Rattle.recipe.proofs.Shapes.{SameShape, equal_shape, shapes_no_clash, shapes_no_cycle}
use Rattle.recipe.specs.Common.{In, Least}
use Rattle.recipe.specs.Fillings.{Filling, Pair, SatisfiesAll, Unsatisfiable, filled}
use Rattle.recipe.specs.Links.{Linked, kind_of}
use Rattle.recipe.specs.Recipes.{Part}
use Rattle.recipe.specs.Tables.{Form, Table, parts}
use Rattle.recipe.specs.Tells.{Decided, FailsUpTo}
use Rattle.recipe.specs.declared.refusals.Refusal.{Refusal}

-- a property of each pair of a list, one after the other
pub every_nil : (P : Pair → Type 0) → (pair : Pair) → In pair [] → P pair
every_nil P pair i = elim i [ ]

pub every_cons : (P : Pair → Type 0) (first : Pair) (rest : List Pair) → P first → ((pair : Pair) → In pair rest → P pair) → (pair : Pair) → In pair (first ∷ rest) → P pair
every_cons P first rest is others pair (inl e) = subst P (sym e) is
every_cons P first rest is others pair (inr i) = others pair i

module _ (T : Table Rate) (rising : Rising T) (pairs : List Pair) (θ : Filling Rate) where
  -- a filling that satisfies the pairs, and so leaves no clash and no cycle
  pub accepts_by : SatisfiesAll same_rate T θ pairs → Decided same_rate T pairs (Ok tt)
  accepts_by satisfied =
      let shapes = λ (pair : Pair) (i : In pair pairs). equal_shape (satisfied pair i) in
      Decided.accepted (θ, satisfied) (shapes_no_clash rate_sameness T θ rising pairs shapes) (shapes_no_cycle rate_sameness T θ rising pairs shapes)

  -- no filling satisfies the pairs, and one gives them one shape: then only the names are at fault
  pub disagrees_at : (a : ℕ) → ((pair : Pair) → In pair pairs → SameShape same_rate (filled T θ pair.0) (filled T θ pair.1)) → Unsatisfiable same_rate T pairs → Least (FailsUpTo same_rate T pairs) a → Decided same_rate T pairs (Err (Refusal.NamesDisagree a))
  disagrees_at a shapes never least =
      Decided.names never (shapes_no_clash rate_sameness T θ rising pairs shapes) (shapes_no_cycle rate_sameness T θ rising pairs shapes) least

-- none of the n places from m on is a name
unfoldable pub no_names : Table Rate → ℕ → ℕ → Bool
no_names T m zero = true
no_names T m (suc n) = no_names T m n && not (eqb (kind_of (T.form (m + n))) 2)

-- so a name place from m on is at or past m + n
pub names_past : (T : Table Rate) (m n k x : ℕ) → no_names T m n ≡ true → m ≤ k → T.form k ≡ Form.name x → m + n ≤ k
unfolding no_names
names_past T m zero k x none h e = omega arith
names_past T m (suc n) k x none h e =
    let both = and_parts (no_names T m n) _ none in
    let other : m + n ≡ k → ⊥ = λ at. eqb-false (kind_of (T.form (m + n))) 2 (not-true _ both.1) (ap (λ q. kind_of (T.form q)) at ∙ ap kind_of e) in
    let before : m + n ≤ k = names_past T m n k x both.0 h e in
    omega arith

-- classes of places that the pairs, the holes and the parts keep hold the linked places together
module _ (T : Table Rate) (pairs : List Pair) (class : ℕ → ℕ) (of_hole : ℕ → ℕ) (of_part : ℕ → ℕ → ℕ)
    (told : (pair : Pair) → In pair pairs → class pair.0 ≡ class pair.1)
    (holes : (p h : ℕ) → T.form p ≡ Form.hole h → class p ≡ of_hole h)
    (below : (p : ℕ) (x : Part ℕ) → In x (parts (T.form p)) → class x.at ≡ of_part (class p) x.step) where
  pub linked_class : {p q : ℕ} → Linked T pairs p q → class p ≡ class q
  linked_class Linked.itself = refl
  linked_class (Linked.back l) = sym (linked_class l)
  linked_class (Linked.chain l m) = linked_class l ∙ linked_class m
  linked_class (Linked.told i) = told _ i
  linked_class (Linked.one_hole {p = p} {q = q} {h = h} d e) = holes p h d ∙ sym (holes q h e)
  linked_class (Linked.one_step {p = p} {q = q} x y l k i j e) =
      let same : class p ≡ class q = linked_class l in
      below p x i ∙ (ap (λ c. of_part c x.step) same ∙ (ap (of_part (class q)) e ∙ sym (below q y j)))
