use Rattle.std.proofs.Common.{◌≡◌, ℕ, max, List, [], ◌∷◌, unwrap_or, fold, ap, ◌∙◌, arith, rules, tests}
use Rattle.std.proofs.lemmas.Iterator.{YieldsList-from_slice, YieldsList-from_map}
use Rattle.std.proofs.lemmas.Iterator.Consumers.{reduce_from_yields_List}
use Rattle.std.proofs.lemmas.List.Folds.{max_of_map}
use Rattle.recipe.specs.Checking.{above_name, name_count}
use Rattle.recipe.specs.declared.places.Place.{Place}
use Rattle.recipe.proofs.checking.name_count.Goals as goal

counted : (n : ℕ) (xs : List Place) → fold (λ a x. max a (above_name x)) n xs ≡ max n (name_count xs)
counted n [] = omega arith
counted n (x ∷ xs) = omega (arith, counted (max n (above_name x)) xs)

pub returns-clause-value : goal.returns-clause-value
returns-clause-value c =
    let places = c.args.places.now in
    c.unwrap_or.ensures
    ∙ ap (λ o. unwrap_or o 0) (reduce_from_yields_List _ c.map.result _ c.max.ensures.ran (YieldsList-from_map _ above_name (YieldsList-from_slice places cc) c.map.ensures.closure (λ x b q k. search (rules, tests))))
    ∙ max_of_map above_name places ∙ counted 0 places ∙ omega arith
