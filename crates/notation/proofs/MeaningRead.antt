-- A table that is read means its recipes. Assumes nothing.
use Rattle.std.proofs.Common.{◌≡◌, ℕ, Bool, inl, inr, ◌↔◌, List, [], ◌∷◌, ◌++◌, take, drop, map, get_or, ap, ap₂, sym, subst, ◌∙◌, take-append-drop}
use Rattle.std.proofs.Math.Seq.{take-append_seam}
use Rattle.std.specs.Prelude.{zip}
use Rattle.recipe.specs.Common.{In}
use Rattle.recipe.specs.Equality.{Equal}
use Rattle.recipe.specs.Fillings.{filled}
use Rattle.recipe.specs.Recipes.{Recipe}
use Rattle.recipe.specs.Scopes.{Scope}
use Rattle.recipe.specs.Tables.{table_of, scope}
use Rattle.recipe.proofs.ByParts.{root_scope}
use Rattle.notation.specs.Grammar.{Tree}
use Rattle.notation.specs.Meaning.{Means, ReadTablesMean, CountedTablesMean, recipe_of, roots_of}
use Rattle.notation.specs.Tables.{places_of}
use Rattle.notation.proofs.RootsRead.{roots_read, roots_rise}
use Rattle.notation.proofs.TextsRead.{texts_read}

-- equality in equal scopes of equal recipes
equal_same : {L : Type 0} (same : L → L → Bool) (Φ Ψ : Scope) (t u v w : Recipe L) → Φ ≡ [] → Ψ ≡ [] → t ≡ v → u ≡ w → Equal same Φ t Ψ u ↔ Equal same [] v [] w
equal_same same Φ Ψ t u v w a b e f = rw (a, b, e, f) (λ h. h, λ h. h)

-- what stands at one index of two lists that f and g make the same
same_at : {L : Type 0} (f : ℕ → Recipe L) (g : Tree → Recipe L) (ps : List ℕ) (ts : List Tree) (x : ℕ × Tree) → map f ps ≡ map g ts → In x (zip ps ts) → In x.0 ps × (f x.0 ≡ g x.1)
same_at f g [] ts x e i = absurd i
same_at f g (p ∷ ps) [] x e i = absurd i
same_at f g (p ∷ ps) (t ∷ ts) x e (inl is) =
    (inl (ap (λ z. z.0) is), ap (λ z. f z.0) is ∙ ap (λ q. get_or q 0 Recipe.nil) e ∙ sym (ap (λ z. g z.1) is))
same_at f g (p ∷ ps) (t ∷ ts) x e (inr i) = let rest = same_at f g ps ts x (ap (λ q. drop 1 q) e) i in (inr rest.0, rest.1)

-- the table of recipes
pub recipes_meant : {L : Type 0} → ReadTablesMean L
recipes_meant reads ts ls more h =
    let T = table_of (places_of ts) (ls ++ more) in
    let roots = roots_read ts (ls ++ more) in
    let texts = texts_read reads ts ls more h in
    record {
      roots = roots;
      order = roots_rise ts;
      scopes = root_scope T;
      texts = texts;
      pairs = λ same θ p q t u i j.
          let (at, one) = same_at (filled T θ) (recipe_of reads ts θ) (roots_of ts) ts (p, t) (texts θ) i in
          let (to, two) = same_at (filled T θ) (recipe_of reads ts θ) (roots_of ts) ts (q, u) (texts θ) j in
          equal_same same (scope T p) (scope T q) _ _ _ _ (root_scope T p ((roots p).1 at)) (root_scope T q ((roots q).1 to)) one two;
    }

-- the places that a reading has filled
pub counted_meant : {L : Type 0} → CountedTablesMean L
counted_meant reads size s old new counts accepts ls same =
    let ts = accepts.trees in
    let places : places_of ts ≡ take counts.places new.places = sym (ap₂ (λ n q. take n q) accepts.place_count accepts.places ∙ take-append_seam (places_of ts) _) in
    let front : take counts.leaves new.leaves ≡ accepts.read = ap₂ (λ n q. take n q) accepts.leaf_count accepts.leaves ∙ take-append_seam accepts.read _ in
    let whole : accepts.read ++ drop counts.leaves ls ≡ ls = ap (λ q. q ++ drop counts.leaves ls) (sym (same ∙ front)) ∙ take-append-drop counts.leaves ls in
    subst (λ q. Means reads ts (table_of q ls)) places (subst (λ q. Means reads ts (table_of (places_of ts) q)) whole (recipes_meant reads ts accepts.read (drop counts.leaves ls) accepts.reads_as))
