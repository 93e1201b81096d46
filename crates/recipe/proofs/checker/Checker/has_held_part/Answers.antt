use Rattle.std.proofs.Common.{◌≡◌, ℕ, ◌||◌, Bool, true, false, List, [], ◌∷◌, refl, ◌∙◌, rules}
use Rattle.std.specs.List.{list_any}
use Rattle.recipe.specs.Checking.{twice, held_among}
use Rattle.recipe.specs.Marks.{is_marked, parts_of}
use Rattle.recipe.specs.Recipes.{Part}
use Rattle.recipe.proofs.checker.Checker.has_held_part.Goals as goal

-- two steps of `any_or`, at the last element and before it
or_last : (a b : Bool) → ((a || b) || false) ≡ ((a || false) || b)
or_last true b = refl
or_last false true = refl
or_last false false = refl

or_more : (a b c d : Bool) → d ≡ (c || b) → ((a || b) || d) ≡ ((a || c) || b)
or_more true b c d e = refl
or_more false true true d e = refl
or_more false true false d e = refl
or_more false false c d e = e

-- a second test that no element changes may be made at each, where there is one
any_or : (test : Part ℕ → Bool) (b : Bool) (x : Part ℕ) (xs : List (Part ℕ)) → list_any (λ y. test y || b) (x ∷ xs) ≡ (list_any test (x ∷ xs) || b)
any_or test b x [] = or_last (test x) b
any_or test b x (y ∷ ys) = or_more (test x) b _ _ (any_or test b y ys)

-- whether two parts are one place may be asked at each part
any_or_twice : (held : ℕ → Bool) (xs : List (Part ℕ)) → list_any (λ x. held x.at || twice xs) xs ≡ held_among held xs
any_or_twice held [] = refl
any_or_twice held (x ∷ xs) = any_or (λ y. held y.at) (twice (x ∷ xs)) x xs

pub returns : goal.returns
returns c =
    let held = is_marked c.args.self.now.depths in
    let xs = parts_of c.args.place.now in
    c.any_part.ensures (λ part. held part || twice xs) (λ part r answer. search rules) ∙ any_or_twice held xs
