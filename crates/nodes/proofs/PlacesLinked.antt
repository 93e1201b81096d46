-- What the classes of a forest over places are: the places that the told pairs link. Assumes nothing.
use Rattle.std.proofs.Common.{◌≡◌, ℕ, ◌⊎◌, List, [], ◌∷◌, ◌++◌, length, Some, refl, sym, ◌∙◌, inl, inr, subst, arith}
use Rattle.recipe.specs.Common.{In}
use Rattle.recipe.specs.Fillings.{Pair}
use Rattle.recipe.specs.Links.{Linked}
use Rattle.recipe.specs.Tables.{Form, Table, parts}
use Rattle.closure.specs.Closures.{Closure}
use Rattle.closure.proofs.ClosureGrown.{closure_over}
use Rattle.closure.proofs.Forms.{one_kind}
use Rattle.forest.specs.Exact.{Joined, OneMore}
use Rattle.forest.specs.Rows.{IsNode}
use Rattle.nodes.specs.PlaceClasses.{PlacesJoined, RootsLink, place_parts}
use Rattle.nodes.proofs.PlaceParts.{part_found, part_is_found}

-- what stands in a list with one more at its end
pub in_both : {A : Type 0} (x y : A) (xs : List A) → In x (xs ++ (y ∷ [])) → In x xs ⊎ (x ≡ y)
in_both x y [] (inl e) = inr e
in_both x y [] (inr i) = absurd i
in_both x y (z ∷ zs) (inl e) = inl (inl e)
in_both x y (z ∷ zs) (inr i) = elim (in_both x y zs i) [ inl j ↦ inl (inr j) | inr e ↦ inr e ]

pub in_first : {A : Type 0} (x y : A) (xs : List A) → In x xs → In x (xs ++ (y ∷ []))
in_first x y [] i = absurd i
in_first x y (z ∷ zs) (inl e) = inl e
in_first x y (z ∷ zs) (inr i) = inr (in_first x y zs i)

pub in_last : {A : Type 0} (y : A) (xs : List A) → In y (xs ++ (y ∷ []))
in_last y [] = inl refl
in_last y (z ∷ zs) = inr (in_last y zs)

module _ {L : Type 0} (T : Table L) where
  -- parts of linked places at one side are linked
  linked_parts : (told : List Pair) (u v side c d : ℕ) → Linked T told u v → place_parts T u side ≡ Some c → place_parts T v side ≡ Some d → Linked T told c d
  linked_parts told u v side c d l p q =
      let (x, i, s, at) = part_found (parts (T.form u)) side c p in
      let (y, j, t, by) = part_found (parts (T.form v)) side d q in
      let same = s ∙ sym t in
      rw (← at, ← by) (Linked.one_step x y l (one_kind (T.form u) (T.form v) x y i j same) i j same)

  -- what pairs of linked places join is linked
  pub joined_linked : (told : List Pair) (pairs : List (ℕ × ℕ)) → ((p q : ℕ) → In (p, q) pairs → Linked T told p q) → {p q : ℕ} → Joined (place_parts T) pairs p q → Linked T told p q
  joined_linked told pairs linked Closure.itself = Linked.itself
  joined_linked told pairs linked (Closure.back j) = Linked.back (joined_linked told pairs linked j)
  joined_linked told pairs linked (Closure.chain j k) = Linked.chain (joined_linked told pairs linked j) (joined_linked told pairs linked k)
  joined_linked told pairs linked (Closure.held {u = u} {v = v} i) = linked u v i
  joined_linked told pairs linked (Closure.part {u = u} {v = v} {c = c} {d = d} {s = side} j p q) = linked_parts told u v side c d (joined_linked told pairs linked j) p.1 q.1

  -- what joins the told pairs and the places of one hole joins what is linked
  pub linked_joined : (told : List Pair) (pairs : List (ℕ × ℕ)) → ((p q : ℕ) → In (p, q) told → Joined (place_parts T) pairs p q) → ((p q h : ℕ) → T.form p ≡ Form.hole h → T.form q ≡ Form.hole h → Joined (place_parts T) pairs p q) →
      {p q : ℕ} → Linked T told p q → Joined (place_parts T) pairs p q
  linked_joined told pairs tells holes Linked.itself = Closure.itself
  linked_joined told pairs tells holes (Linked.back l) = Closure.back (linked_joined told pairs tells holes l)
  linked_joined told pairs tells holes (Linked.chain l k) = Closure.chain (linked_joined told pairs tells holes l) (linked_joined told pairs tells holes k)
  linked_joined told pairs tells holes (Linked.told {p = p} {q = q} i) = tells p q i
  linked_joined told pairs tells holes (Linked.one_hole {p = p} {q = q} {h = h} d e) = holes p q h d e
  linked_joined told pairs tells holes (Linked.one_step {p = p} {q = q} x y l k i j e) =
      let (low, at) = part_is_found (T.form p) x i in
      let (high, by) = part_is_found (T.form q) y j in
      Closure.part {s = x.step} (linked_joined told pairs tells holes l) (low, at) (low, rw (← e) at by)

  -- two places have one root exactly if they are linked
  pub roots_link : (told : List Pair) (rows : List ℕ) → PlacesJoined T told rows → RootsLink T told rows
  roots_link told rows joined p q low high =
      let long = joined.long in
      let first : IsNode rows p = omega arith in
      let second : IsNode rows q = omega arith in
      let classes = joined.exact.classes p q first second in
      (λ e. joined_linked told joined.pairs joined.linked (classes.0 e), λ l. classes.1 (linked_joined told joined.pairs joined.tells joined.holes l))

  -- with more pairs more is joined, and with more tells more is linked
  pub joined_more : (pairs : List (ℕ × ℕ)) (w : ℕ × ℕ) → {p q : ℕ} → Joined (place_parts T) pairs p q → Joined (place_parts T) (w ∷ pairs) p q
  joined_more pairs w = closure_over (λ u v i. inr i)

  pub linked_more : (told : List Pair) (w : Pair) → {p q : ℕ} → Linked T told p q → Linked T (told ++ (w ∷ [])) p q
  linked_more told w Linked.itself = Linked.itself
  linked_more told w (Linked.back l) = Linked.back (linked_more told w l)
  linked_more told w (Linked.chain l k) = Linked.chain (linked_more told w l) (linked_more told w k)
  linked_more told w (Linked.told {p = p} {q = q} i) = Linked.told (in_first (p, q) w told i)
  linked_more told w (Linked.one_hole d e) = Linked.one_hole d e
  linked_more told w (Linked.one_step x y l k i j e) = Linked.one_step x y (linked_more told w l) k i j e

  module _ (told : List Pair) (u v : ℕ) (old new : List ℕ) (long : length new ≡ length old) (joined : PlacesJoined T told old) (more : OneMore u v old new) where
    new_linked : (p q : ℕ) → In (p, q) ((u, v) ∷ joined.pairs) → Linked T (told ++ ((u, v) ∷ [])) p q
    new_linked p q (inl e) = Linked.told (subst (λ w. In w (told ++ ((u, v) ∷ []))) (sym e) (in_last (u, v) told))
    new_linked p q (inr i) = linked_more told (u, v) (joined.linked p q i)

    new_tells : (p q : ℕ) → In (p, q) (told ++ ((u, v) ∷ [])) → Joined (place_parts T) ((u, v) ∷ joined.pairs) p q
    new_tells p q i = elim (in_both (p, q) (u, v) told i) [
      | inl j ↦ joined_more joined.pairs (u, v) (joined.tells p q j)
      | inr e ↦ Closure.held (inl e)
    ]

    -- one tell more
    pub places_told : PlacesJoined T (told ++ ((u, v) ∷ [])) new
    places_told = record {
      long = long ∙ joined.long;
      pairs = (u, v) ∷ joined.pairs;
      exact = more (place_parts T) joined.pairs joined.exact;
      linked = new_linked;
      tells = new_tells;
      holes = λ p q h d e. joined_more joined.pairs (u, v) (joined.holes p q h d e);
    }
