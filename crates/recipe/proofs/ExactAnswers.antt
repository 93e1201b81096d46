-- Each answer is right exactly where its rule applies. Assumes nothing.
use Rattle.std.proofs.Common.{◌≡◌, ℕ, Bool, ◌↔◌, List, Some, None, Ok, Option, Result, sym, refl, ◌∙◌, subst, arith}
use Rattle.std.proofs.lemmas.Option.{none-some}
use Rattle.recipe.specs.declared.labels.Finding.{Finding}
use Rattle.recipe.specs.declared.labels.Label.{Label}
use Rattle.recipe.specs.declared.refusals.Refusal.{Refusal}
use Rattle.recipe.specs.AnswerLaws.{LooksExact, TellExact, TellsExact}
use Rattle.recipe.specs.Fillings.{Pair}
use Rattle.recipe.specs.Looks.{AllHave, Looks}
use Rattle.recipe.specs.Tables.{Table}
use Rattle.recipe.specs.Tells.{Decided, Tells}
use Rattle.recipe.proofs.OneAnswer.{looks_once}

-- neither side holds
pub neither : {A B : Type 0} → (A → ⊥) → (B → ⊥) → A ↔ B
neither f g = (λ a. absurd (f a), λ b. absurd (g b))

module _ {L : Type 0} (same : L → L → Bool) where
  decided_exact : (T : Table L) (pairs : List Pair) {r : Result (Unit {0}) Refusal} → Decided same T pairs r → TellExact same T pairs r
  decided_exact T pairs (Decided.accepted f n m) = record {
    accepts = (λ e. f, λ g. refl);
    clashes = neither (λ e. omega arith) (λ c. n c.0 c.1 c.2);
    comes_back = neither (λ e. omega arith) (λ c. m c.1.0 c.1.1);
    disagrees = neither (λ e. omega arith) (λ c. c.2 f);
  }
  decided_exact T pairs (Decided.clash {a = i} {b = j} u a b) = record {
    accepts = neither (λ e. omega arith) u;
    clashes = (λ e. (i, j, b.has), λ c. refl);
    comes_back = neither (λ e. omega arith) (λ c. c.0 i j b.has);
    disagrees = neither (λ e. omega arith) (λ c. c.0 i j b.has);
  }
  decided_exact T pairs (Decided.cyclic {a = i} u n a) = record {
    accepts = neither (λ e. omega arith) u;
    clashes = neither (λ e. omega arith) (λ c. n c.0 c.1 c.2);
    comes_back = (λ e. (n, (i, a.has)), λ c. refl);
    disagrees = neither (λ e. omega arith) (λ c. c.1 i a.has);
  }
  decided_exact T pairs (Decided.names {a = i} u n m a) = record {
    accepts = neither (λ e. omega arith) u;
    clashes = neither (λ e. omega arith) (λ c. n c.0 c.1 c.2);
    comes_back = neither (λ e. omega arith) (λ c. m c.1.0 c.1.1);
    disagrees = (λ e. (n, m, u), λ c. refl);
  }

  pub tells_exact : TellsExact same
  tells_exact T pairs p q r none (Tells.refused e) = absurd (none-some _ (sym none ∙ e))
  tells_exact T pairs p q r none (Tells.decided e d) = decided_exact T _ d

  module _ (T : Table L) (ls : List L) (pairs : List Pair) (p : ℕ) (path : List ℕ) where
    -- what an answer to a look rests on
    rests_label : {l : Label} → Looks same T ls pairs p path (Ok (Finding.Label l)) → AllHave same T ls pairs p path (Some l)
    rests_label (Looks.label e all) = all

    rests_absent : Looks same T ls pairs p path (Ok Finding.Absent) → AllHave same T ls pairs p path None
    rests_absent (Looks.absent e all) = all

    rests_undecided : Looks same T ls pairs p path (Ok Finding.Open) → (found : Option Label) → AllHave same T ls pairs p path found → ⊥
    rests_undecided (Looks.undecided e all) = all

  pub looks_exact : LooksExact same
  looks_exact T ls pairs p path r f none right =
      let is : (s : Result Finding Refusal) → Looks same T ls pairs p path s → r ≡ s = λ s also. looks_once same T ls pairs p path r s f right also in
      let at : (s : Result Finding Refusal) → r ≡ s → Looks same T ls pairs p path s = λ s e. subst (Looks same T ls pairs p path) e right in
      record {
        label = λ l. (λ e. rests_label T ls pairs p path (at _ e), λ all. is _ (Looks.label none all));
        absent = (λ e. rests_absent T ls pairs p path (at _ e), λ all. is _ (Looks.absent none all));
        undecided = (λ e. rests_undecided T ls pairs p path (at _ e), λ all. is _ (Looks.undecided none all));
      }
