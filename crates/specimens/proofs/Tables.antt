-- What the worked examples share: their tables compute, and their pairs and steps are taken one by one. Assumes nothing.
use Rattle.std.proofs.Common.{◌≡◌, true, [], ◌∷◌, map, is_ok, sym, refl, subst}
use Rattle.leaves.specs.Rates.{same_rate}
use Rattle.recipe.proofs.Filled.{Rising, valid_rising}
use Rattle.recipe.proofs.HistorySteps.{RightFrom, right_from}
use Rattle.recipe.proofs.Opened.{opened_table}
use Rattle.recipe.proofs.Validation.{checked_valid}
use Rattle.recipe.specs.Checking.{checked}
use Rattle.recipe.specs.Histories.{Allowed, Right, request}
use Rattle.leaves.specs.declared.rate.Rate.{Rate}
use Rattle.recipe.specs.Common.{first_below}
use Rattle.recipe.specs.Fillings.{Filling, Pair, Satisfies, SatisfiesAll, filled_within}
use Rattle.recipe.specs.Labels.{label_below}
use Rattle.recipe.specs.Recipes.{Recipe}
use Rattle.recipe.specs.Scopes.{inner}
use Rattle.recipe.specs.Tables.{Table, table_of, scope_within}
use Rattle.specimens.specs.Examples.{AsListed, Example}
use Rattle.specimens.proofs.Helpers.{every_nil, every_cons, no_names}

-- the table of an example
abbrev pub table : Example → Table Rate
table e = table_of e.places e.leaves

-- the answers of an example are right, one after the other
abbrev pub InTurn : Example → Type 0
InTurn e = RightFrom same_rate (table e) e.leaves [] e.history

-- an example comes out as listed where `check` accepts its table and its answers are right in turn
pub listed : (e : Example) → is_ok (checked e.places e.leaves) ≡ true → Allowed (map request e.history) → (Rising (table e) → InTurn e) → AsListed e
listed e ok allowed right =
    let v = (checked_valid e.places e.leaves).0 ok in
    let is_right = right_from same_rate (table e) e.leaves e.history (right (valid_rising _ _ v)) in
    record {
      valid = v;
      allowed = allowed;
      run = λ words enough. record {
        answered = refl;
        right = subst (λ T. Right same_rate T e.leaves e.history) (sym (opened_table e.places e.leaves words ok enough)) is_right;
      };
    }

-- what a table computes by
unfoldable pub opened : Unit {0}
unfolding filled_within scope_within first_below inner label_below no_names
opened = tt

-- one pair, or two, satisfied
pub one_pair : (T : Table Rate) (θ : Filling Rate) (a : Pair) → Satisfies same_rate T θ a → SatisfiesAll same_rate T θ (a ∷ [])
one_pair T θ a s = every_cons (Satisfies same_rate T θ) a [] s (every_nil _)

pub two_pairs : (T : Table Rate) (θ : Filling Rate) (a b : Pair) → Satisfies same_rate T θ a → Satisfies same_rate T θ b → SatisfiesAll same_rate T θ (a ∷ b ∷ [])
two_pairs T θ a b s t = every_cons (Satisfies same_rate T θ) a (b ∷ []) s (one_pair T θ b t)

-- every hole filled with the name 0
abbrev pub zeros : Filling Rate
zeros h = Recipe.name 0
