-- The right answer of `alike`, from the tests, the lowest hole and the comparison. Assumes nothing.
use Rattle.std.proofs.Common.{◌≡◌, ℕ, ◌<◌, ◌≤◌, ◌≢◌, ◌↔◌, Bool, true, false, Some, None, Ok, Option, refl, arith}
use Rattle.std.proofs.lemmas.Bool.Decides.{nat_tests}
use Rattle.recipe.specs.declared.refusals.Refusal.{Refusal}
use Rattle.recipe.specs.Alike.{Alikes, HoleAmong, HoleWithin, alike_fault}
use Rattle.recipe.specs.Fillings.{Filling, Satisfies}
use Rattle.recipe.specs.Tables.{Table, depth}
use Rattle.nodes.specs.LowestHoles.{FindsHole, LeastIfAny, lower_of}
use Rattle.nodes.proofs.LowestHolesFound.{lower_least}

module _ {L : Type 0} (T : Table L) (p q : ℕ) where
  pub first_past : T.size ≤ p → alike_fault T p q ≡ Some (Refusal.NoSuchPlace p)
  first_past h = grind (arith, nat_tests)

  pub second_past : p < T.size → T.size ≤ q → alike_fault T p q ≡ Some (Refusal.NoSuchPlace q)
  second_past low h = grind (arith, nat_tests)

  pub depths_apart : p < T.size → q < T.size → depth T p ≢ depth T q → alike_fault T p q ≡ Some (Refusal.UnequalDepths p q)
  depths_apart low low_too n = grind (arith, nat_tests)

  pub none_refuses : p < T.size → q < T.size → depth T p ≡ depth T q → alike_fault T p q ≡ None
  none_refuses low low_too e = grind (arith, nat_tests)

  -- the lowest hole at or under the two places
  pub lowest_among : (a b r : Option ℕ) → FindsHole T p a → FindsHole T q b → r ≡ lower_of a b → LeastIfAny (HoleAmong T p q) r
  lowest_among a b r one two e = rw e (lower_least (HoleWithin T p) (HoleWithin T q) a b one two)

  -- a comparison that is right for every filling
  pub compared : (same : L → L → Bool) (b : Bool) → alike_fault T p q ≡ None → LeastIfAny (HoleAmong T p q) None → ((θ : Filling L) → (b ≡ true) ↔ Satisfies same T θ (p, q)) → Alikes same T p q (Ok b)
  compared same true none finished exact = Alikes.equal none finished (λ θ. (exact θ).0 refl)
  compared same false none finished exact = Alikes.different none finished (λ θ s. let e = (exact θ).1 s in cc)
