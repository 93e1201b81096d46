-- An answer of `alike` is right exactly where its rule applies, and at most one is right. Assumes nothing.
use Rattle.std.proofs.Common.{◌≡◌, Bool, sym, refl, ◌∙◌}
use Rattle.std.proofs.lemmas.Option.{none-some}
use Rattle.recipe.specs.Alike.{Alikes, HoleAmong}
use Rattle.recipe.specs.AlikeLaws.{AlikesExact, AlikesOnce}
use Rattle.recipe.specs.Fillings.{Filling}
use Rattle.recipe.specs.Recipes.{Recipe}
use Rattle.recipe.proofs.OneAnswer.{least_once}
use Rattle.recipe.proofs.ExactAnswers.{neither}

module _ {L : Type 0} (same : L → L → Bool) where
  -- there is a filling
  nils : Filling L
  nils h = Recipe.nil

  pub alikes_once : AlikesOnce same
  alikes_once T p q r s (Alikes.refused d) (Alikes.refused e) = cc
  alikes_once T p q r s (Alikes.refused d) (Alikes.unfinished e a) = absurd (none-some _ (sym e ∙ d))
  alikes_once T p q r s (Alikes.refused d) (Alikes.equal e f a) = absurd (none-some _ (sym e ∙ d))
  alikes_once T p q r s (Alikes.refused d) (Alikes.different e f a) = absurd (none-some _ (sym e ∙ d))
  alikes_once T p q r s (Alikes.unfinished d a) (Alikes.refused e) = absurd (none-some _ (sym d ∙ e))
  alikes_once T p q r s (Alikes.unfinished {h = h} d a) (Alikes.unfinished {h = k} e b) = let one : h ≡ k = least_once (HoleAmong T p q) h k a b in cc
  alikes_once T p q r s (Alikes.unfinished {h = h} d a) (Alikes.equal e f b) = absurd (f h a.has)
  alikes_once T p q r s (Alikes.unfinished {h = h} d a) (Alikes.different e f b) = absurd (f h a.has)
  alikes_once T p q r s (Alikes.equal d f a) (Alikes.refused e) = absurd (none-some _ (sym d ∙ e))
  alikes_once T p q r s (Alikes.equal d f a) (Alikes.unfinished {h = h} e b) = absurd (f h b.has)
  alikes_once T p q r s (Alikes.equal d f a) (Alikes.equal e g b) = refl
  alikes_once T p q r s (Alikes.equal d f a) (Alikes.different e g b) = absurd (b nils (a nils))
  alikes_once T p q r s (Alikes.different d f a) (Alikes.refused e) = absurd (none-some _ (sym d ∙ e))
  alikes_once T p q r s (Alikes.different d f a) (Alikes.unfinished {h = h} e b) = absurd (f h b.has)
  alikes_once T p q r s (Alikes.different d f a) (Alikes.equal e g b) = absurd (a nils (b nils))
  alikes_once T p q r s (Alikes.different d f a) (Alikes.different e g b) = refl

  pub alikes_exact : AlikesExact same
  alikes_exact T p q r none (Alikes.refused e) = absurd (none-some _ (sym none ∙ e))
  alikes_exact T p q r none (Alikes.unfinished {h = k} e a) = record {
    unfinished = λ h. (λ is. let one : k ≡ h = cc in rw (sym one) a, λ b. let one : k ≡ h = least_once (HoleAmong T p q) k h a b in cc);
    answered = λ b is. absurd cc;
    equal = λ f. absurd (f k a.has);
    different = λ f. absurd (f k a.has);
  }
  alikes_exact T p q r none (Alikes.equal e f a) = record {
    unfinished = λ h. neither (λ is. cc) (λ b. f h b.has);
    answered = λ b is. f;
    equal = λ g. (λ is. a, λ b. refl);
    different = λ g. neither (λ is. cc) (λ b. b nils (a nils));
  }
  alikes_exact T p q r none (Alikes.different e f a) = record {
    unfinished = λ h. neither (λ is. cc) (λ b. f h b.has);
    answered = λ b is. f;
    equal = λ g. neither (λ is. cc) (λ b. a nils (b nils));
    different = λ g. (λ is. a, λ b. refl);
  }
