-- The worked examples in which a tell is refused. Assumes nothing.
use Rattle.std.proofs.Common.{◌≡◌, ℕ, zero, suc, ◌*◌, ◌≤◌, ◌⊎◌, [], ◌∷◌, sym, refl, ap, ◌∙◌, subst, inl, inr, arith}
use Rattle.std.proofs.lemmas.Bool.{cases_eq}
use Rattle.leaves.specs.CrossProducts.{rate_sameness}
use Rattle.leaves.specs.Rates.{same_rate}
use Rattle.leaves.specs.declared.rate.Rate.{Rate}
use Rattle.recipe.proofs.EqualRecipes.{equal_name, equal_insides}
use Rattle.recipe.proofs.EqualScopes.{name_at_binder, name_past_binder, name_without}
use Rattle.recipe.proofs.Filled.{Rising}
use Rattle.recipe.proofs.Shapes.{SameShape, differ_itself, differ_no_holes}
use Rattle.recipe.specs.Common.{In}
use Rattle.recipe.specs.Equality.{Equal}
use Rattle.recipe.specs.Fillings.{Filling}
use Rattle.recipe.specs.Links.{Differ, Linked, Reaches, kind_of}
use Rattle.recipe.specs.Recipes.{Recipe, Part, left}
use Rattle.recipe.specs.Scopes.{Scope}
use Rattle.recipe.specs.Tables.{Form, parts}
use Rattle.recipe.specs.Tells.{Decided, NoClash, FailsUpTo, Tells, names_as_holes}
use Rattle.specimens.specs.Examples.{shadowed, endless, unused_binders, two_binders}
use Rattle.specimens.proofs.Helpers.{every_nil, every_cons, accepts_by, disagrees_at, names_past, linked_class}
use Rattle.specimens.proofs.Tables.{InTurn, table, opened, one_pair, two_pairs, zeros}
use Rattle.specimens.proofs.Accepted.{x_is_a}

-- (lambda (a) (lambda (a) X)) and (lambda (c) (lambda (d) c)): X would be a name of the outer a

no_outer_name : {t : Recipe Rate} → Equal same_rate [] (Recipe.bind 0 (Recipe.bind 0 t)) [] (Recipe.bind 1 (Recipe.bind 2 (Recipe.name 1))) → ⊥
no_outer_name e =
    let n = equal_name (equal_insides (equal_insides e)) in
    let p = name_past_binder (0 ∷ []) (1 ∷ []) 0 2 n.0 1 (λ h. omega arith) n.2 in
    p.0 (name_at_binder [] [] 0 1 n.0 p.1)

pub shadowed_right : Rising (table shadowed) → InTurn shadowed
unfolding opened
shadowed_right rising = (
  Tells.decided refl (
      disagrees_at (table shadowed) rising _ zeros 5
      (every_cons _ (0, 3) [] (SameShape.binds (SameShape.binds SameShape.names)) (every_nil _))
      (λ f. no_outer_name (f.1 (0, 3) (inl refl)))
      (record {
        has = record { named = (1, refl); never = λ f. no_outer_name (f.1 (0, 3) (inl refl)) };
        lowest = λ k s. names_past (table shadowed) 0 5 k s.named.0 refl (omega arith) s.named.1;
      })
      ),
  tt,
)

-- X and (X '()): X would contain itself

not_own_part : {Φ Ψ : Scope} (t u : Recipe Rate) → Equal same_rate Φ t Ψ (Recipe.call t u) → ⊥
not_own_part Recipe.nil u e = elim e [ ]
not_own_part (Recipe.leaf l) u e = elim e [ ]
not_own_part (Recipe.name x) u e = elim e [ ]
not_own_part (Recipe.bind a t) u e = elim e [ ]
not_own_part (Recipe.call t v) u (Equal.calls d e) = not_own_part t v d

-- the places of X and the call are linked, and no others
class_of : ℕ → ℕ
class_of zero = 0
class_of (suc zero) = 0
class_of (suc (suc zero)) = 0
class_of (suc (suc (suc p))) = suc (suc (suc p))

endless_class : {p q : ℕ} → Linked (table endless) ((0, 1) ∷ []) p q → class_of p ≡ class_of q
unfolding opened class_of
endless_class = linked_class (table endless) ((0, 1) ∷ []) class_of (λ h. 0) (λ c s. s * 3) (every_cons (λ a. class_of a.0 ≡ class_of a.1) (0, 1) [] refl (every_nil _)) holes below
  where
    holes : (p h : ℕ) → (table endless).form p ≡ Form.hole h → class_of p ≡ 0
    holes zero h e = refl
    holes (suc zero) h e = refl
    holes (suc (suc zero)) h e = refl
    holes (suc (suc (suc zero))) h e = let z : ◌≡◌ {A = ℕ} 0 3 = ap kind_of e in absurd (omega arith)
    holes (suc (suc (suc (suc p)))) h e = let z : ◌≡◌ {A = ℕ} 0 3 = ap kind_of e in absurd (omega arith)

    below : (p : ℕ) (x : Part ℕ) → In x (parts ((table endless).form p)) → class_of x.at ≡ x.step * 3
    below zero x i = elim i [ ]
    below (suc zero) x (inl i) = rw i
    below (suc zero) x (inr (inl i)) = rw i
    below (suc zero) x (inr (inr i)) = elim i [ ]
    below (suc (suc zero)) x i = elim i [ ]
    below (suc (suc (suc zero))) x i = elim i [ ]
    below (suc (suc (suc (suc p)))) x i = elim i [ ]

endless_no_clash : NoClash same_rate (table endless) ((0, 1) ∷ [])
unfolding opened class_of
endless_no_clash p q c = apart p q (endless_class c.linked) c.differ
  where
    apart : (p q : ℕ) → class_of p ≡ class_of q → Differ same_rate ((table endless).form p) ((table endless).form q) → ⊥
    apart zero q e d = (differ_no_holes d).0 refl
    apart (suc zero) zero e d = (differ_no_holes d).1 refl
    apart (suc zero) (suc zero) e d = differ_itself rate_sameness _ d
    apart (suc zero) (suc (suc zero)) e d = (differ_no_holes d).1 refl
    apart (suc zero) (suc (suc (suc q))) e d = omega arith
    apart (suc (suc zero)) q e d = (differ_no_holes d).0 refl
    apart (suc (suc (suc p))) zero e d = omega arith
    apart (suc (suc (suc p))) (suc zero) e d = omega arith
    apart (suc (suc (suc p))) (suc (suc zero)) e d = omega arith
    apart (suc (suc (suc p))) (suc (suc (suc q))) e d =
        let one : p ≡ q = omega arith in
        differ_itself rate_sameness ((table endless).form (suc (suc (suc q)))) (rw one at d)

pub endless_right : Rising (table endless) → InTurn endless
unfolding opened
endless_right rising = (
  Tells.decided refl (
      Decided.cyclic (λ f. not_own_part (f.0 0) Recipe.nil (f.1 (0, 1) (inl refl))) endless_no_clash (record {
        has = record {
          holder = 1;
          part = left 2;
          there = Reaches.to_linked (Linked.told (inl refl)) Reaches.here;
          down = inl refl;
          return = Reaches.to_linked (Linked.one_hole {h = 0} refl refl) Reaches.here;
        };
        lowest = λ k s. omega arith;
      })
      ),
  tt,
)

-- (lambda (a) X) and (lambda (c) X), then X and a: a is not free in X

a_is_not_x : {t : Recipe Rate} → Equal same_rate [] (Recipe.bind 0 t) [] (Recipe.bind 1 t) → Equal same_rate [] t [] (Recipe.name 0) → ⊥
a_is_not_x {t = t} d e =
    let n = equal_name e in
    let is : t ≡ Recipe.name 0 = n.1 ∙ ap Recipe.name (name_without n.0 0 n.2) in
    let m = equal_name (subst (λ u. Equal same_rate (0 ∷ []) u (1 ∷ []) u) is (equal_insides d)) in
    let zero_is : 0 ≡ m.0 = cc in
    (name_past_binder [] [] 0 1 m.0 0 (λ h. omega arith) m.2).0 (sym zero_is)

pub unused_binders_right : Rising (table unused_binders) → InTurn unused_binders
unfolding opened
unused_binders_right rising =
    let nils : Filling Rate = λ h. Recipe.nil in (
      Tells.decided refl (accepts_by (table unused_binders) rising _ nils (one_pair (table unused_binders) nils (0, 2) (Equal.binds Equal.nils))),
      (
        Tells.decided refl (
            disagrees_at (table unused_binders) rising _ zeros 5
            (every_cons _ (0, 2) ((4, 5) ∷ []) (SameShape.binds SameShape.names) (every_cons _ (4, 5) [] SameShape.names (every_nil _)))
            (λ f. a_is_not_x (f.1 (0, 2) (inl refl)) (f.1 (4, 5) (inr (inl refl))))
            (record {
              has = record { named = (0, refl); never = λ f. a_is_not_x (f.1 (0, 2) (inl refl)) (f.1 (4, 5) (inr (inl refl))) };
              lowest = λ k s. names_past (table unused_binders) 0 5 k s.named.0 refl (omega arith) s.named.1;
            })
            ),
        tt,
      ),
    )

-- (lambda (a) X) and (lambda (b) b), then (lambda (c) X) and (lambda (d) d): X is a, and not c

a_is_not_c : {t : Recipe Rate} → Equal same_rate [] (Recipe.bind 0 t) [] (Recipe.bind 1 (Recipe.name 1)) → Equal same_rate [] (Recipe.bind 2 t) [] (Recipe.bind 3 (Recipe.name 3)) → ⊥
a_is_not_c {t = t} d e =
    let n = equal_name (equal_insides e) in
    let is : t ≡ Recipe.name 0 = x_is_a d in
    let zero_is : 0 ≡ n.0 = cc in
    omega (arith, name_at_binder [] [] 2 3 n.0 n.2)

pub two_binders_right : Rising (table two_binders) → InTurn two_binders
unfolding opened
two_binders_right rising = (
  Tells.decided refl (accepts_by (table two_binders) rising _ zeros (one_pair (table two_binders) zeros (0, 2) a_and_b)),
  (
    Tells.decided refl (
        disagrees_at (table two_binders) rising _ zeros 7
        (every_cons _ (0, 2) ((4, 6) ∷ []) (SameShape.binds SameShape.names) (every_cons _ (4, 6) [] (SameShape.binds SameShape.names) (every_nil _)))
        (λ f. a_is_not_c (f.1 (0, 2) (inl refl)) (f.1 (4, 6) (inr (inl refl))))
        (record {
          has = record { named = (3, refl); never = λ f. a_is_not_c (f.1 (0, 2) (inl refl)) (f.1 (4, 6) (inr (inl refl))) };
          lowest = λ k s. from_seven k s (cases_eq k 3);
        })
        ),
    tt,
  ),
)
  where
    a_and_b : Equal same_rate [] (Recipe.bind 0 (Recipe.name 0)) [] (Recipe.bind 1 (Recipe.name 1))
    a_and_b = Equal.binds (Equal.names (inr (0, refl, refl)))

    -- with the name at 7 read as a hole both pairs are satisfied by a for X and for that hole, so that 3 is not spoiled
    not_three : FailsUpTo same_rate (table two_binders) ((0, 2) ∷ (4, 6) ∷ []) 3 → ⊥
    not_three s = s.never (zeros, two_pairs (names_as_holes 3 (table two_binders)) zeros (0, 2) (4, 6) a_and_b (Equal.binds (Equal.names (inl (refl, refl, refl)))))

    from_seven : (k : ℕ) → FailsUpTo same_rate (table two_binders) ((0, 2) ∷ (4, 6) ∷ []) k → (k ≡ 3) ⊎ (k ≡ 3 → ⊥) → 7 ≤ k
    from_seven k s (inl e) = absurd (not_three (rw e at s))
    from_seven k s (inr n) =
        let three : 3 ≤ k = names_past (table two_binders) 0 3 k s.named.0 refl (omega arith) s.named.1 in
        names_past (table two_binders) 4 3 k s.named.0 refl (omega arith) s.named.1
