-- At most one answer is right. Assumes nothing.
use Rattle.std.proofs.Common.{◌≡◌, ℕ, Bool, List, Result, sym, refl, ◌∙◌, subst, arith}
use Rattle.std.proofs.lemmas.Option.{none-some}
use Rattle.recipe.specs.declared.refusals.Refusal.{Refusal}
use Rattle.recipe.specs.AnswerLaws.{LooksOnce, TellsOnce}
use Rattle.recipe.specs.Common.{Least}
use Rattle.recipe.specs.Fillings.{Pair}
use Rattle.recipe.specs.Links.{Clash}
use Rattle.recipe.specs.Looks.{Looks}
use Rattle.recipe.specs.Tables.{Table}
use Rattle.recipe.specs.Tells.{Decided, Tells}

pub least_once : (P : ℕ → Type 0) (m n : ℕ) → Least P m → Least P n → m ≡ n
least_once P m n a b = omega (arith, a.lowest n b.has, b.lowest m a.has)

module _ {L : Type 0} (same : L → L → Bool) where
  pub decided_once : (T : Table L) (pairs : List Pair) {r s : Result (Unit {0}) Refusal} → Decided same T pairs r → Decided same T pairs s → r ≡ s
  decided_once T pairs (Decided.accepted f n m) (Decided.accepted g k l) = refl
  decided_once T pairs (Decided.accepted f n m) (Decided.clash u a b) = absurd (u f)
  decided_once T pairs (Decided.accepted f n m) (Decided.cyclic u k a) = absurd (u f)
  decided_once T pairs (Decided.accepted f n m) (Decided.names u k l a) = absurd (u f)
  decided_once T pairs (Decided.clash u a b) (Decided.accepted f n m) = absurd (u f)
  decided_once T pairs (Decided.clash {a = i} {b = j} u a b) (Decided.clash {a = k} {b = l} v c d) =
      let one : i ≡ k = least_once _ i k a c in
      let two : j ≡ l = least_once (Clash same T pairs i) j l b (subst (λ p. Least (Clash same T pairs p) l) (sym one) d) in
      cc
  decided_once T pairs (Decided.clash {a = i} u a b) (Decided.cyclic v n c) = absurd (n i a.has.0 a.has.1)
  decided_once T pairs (Decided.clash {a = i} u a b) (Decided.names v n m c) = absurd (n i a.has.0 a.has.1)
  decided_once T pairs (Decided.cyclic u n a) (Decided.accepted f k l) = absurd (u f)
  decided_once T pairs (Decided.cyclic u n c) (Decided.clash {a = i} v a b) = absurd (n i a.has.0 a.has.1)
  decided_once T pairs (Decided.cyclic {a = i} u n a) (Decided.cyclic {a = j} v m b) = let one : i ≡ j = least_once _ i j a b in cc
  decided_once T pairs (Decided.cyclic {a = i} u n a) (Decided.names v m k b) = absurd (k i a.has)
  decided_once T pairs (Decided.names u n m a) (Decided.accepted f k l) = absurd (u f)
  decided_once T pairs (Decided.names u n m c) (Decided.clash {a = i} v a b) = absurd (n i a.has.0 a.has.1)
  decided_once T pairs (Decided.names u n m c) (Decided.cyclic {a = i} v k a) = absurd (m i a.has)
  decided_once T pairs (Decided.names {a = i} u n m a) (Decided.names {a = j} v k l b) = let one : i ≡ j = least_once _ i j a b in cc

  pub tells_once : TellsOnce same
  tells_once T pairs p q r s (Tells.refused d) (Tells.refused e) = cc
  tells_once T pairs p q r s (Tells.refused d) (Tells.decided e v) = absurd (none-some _ (sym e ∙ d))
  tells_once T pairs p q r s (Tells.decided d u) (Tells.refused e) = absurd (none-some _ (sym d ∙ e))
  tells_once T pairs p q r s (Tells.decided d u) (Tells.decided e v) = decided_once T _ u v

  pub looks_once : LooksOnce same
  looks_once T ls pairs p path r s f (Looks.refused d) (Looks.refused e) = cc
  looks_once T ls pairs p path r s f (Looks.refused d) (Looks.label e a) = absurd (none-some _ (sym e ∙ d))
  looks_once T ls pairs p path r s f (Looks.refused d) (Looks.absent e a) = absurd (none-some _ (sym e ∙ d))
  looks_once T ls pairs p path r s f (Looks.refused d) (Looks.undecided e a) = absurd (none-some _ (sym e ∙ d))
  looks_once T ls pairs p path r s f (Looks.label d a) (Looks.refused e) = absurd (none-some _ (sym d ∙ e))
  looks_once T ls pairs p path r s f (Looks.label d a) (Looks.label e b) =
      let one = a f.0 f.1 in
      let two = b f.0 f.1 in
      cc
  looks_once T ls pairs p path r s f (Looks.label d a) (Looks.absent e b) = absurd (none-some _ (sym (b f.0 f.1) ∙ a f.0 f.1))
  looks_once T ls pairs p path r s f (Looks.label d a) (Looks.undecided e b) = absurd (b _ a)
  looks_once T ls pairs p path r s f (Looks.absent d a) (Looks.refused e) = absurd (none-some _ (sym d ∙ e))
  looks_once T ls pairs p path r s f (Looks.absent d a) (Looks.label e b) = absurd (none-some _ (sym (a f.0 f.1) ∙ b f.0 f.1))
  looks_once T ls pairs p path r s f (Looks.absent d a) (Looks.absent e b) = refl
  looks_once T ls pairs p path r s f (Looks.absent d a) (Looks.undecided e b) = absurd (b _ a)
  looks_once T ls pairs p path r s f (Looks.undecided d a) (Looks.refused e) = absurd (none-some _ (sym d ∙ e))
  looks_once T ls pairs p path r s f (Looks.undecided d a) (Looks.label e b) = absurd (a _ b)
  looks_once T ls pairs p path r s f (Looks.undecided d a) (Looks.absent e b) = absurd (a _ b)
  looks_once T ls pairs p path r s f (Looks.undecided d a) (Looks.undecided e b) = refl
