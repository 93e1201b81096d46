-- What `check` keeps of the places passed so far: for each place that one of them holds, its depth; and questions asked of each part. Only private functions cite it. Assumes nothing.
use Rattle.std.specs.Prelude.{◌≡◌, ℕ, ◌+◌, Bool, List, [], ◌∷◌, is_some, Some, None, Option, Result, nat_lt, slice_index_or, slice_set}
use Rattle.std.specs.List.{list_any}
use Rattle.std.specs.Option.{unwrap_or}
use Rattle.recipe.specs.declared.places.Place.{Place}
use Rattle.recipe.specs.declared.refusals.Refusal.{Refusal}
use Rattle.recipe.specs.Checking.{outside, held_among, fault_by_tests, unless}
use Rattle.recipe.specs.Recipes.{Part}
use Rattle.recipe.specs.Tables.{form_of, parts}

-- the parts of a record, which do not depend on the leaves
abbrev pub parts_of : Place → List (Part ℕ)
parts_of x = parts (form_of {L = Unit {0}} [] x)

-- b says whether some part passes, by any test that the calls answer as a function of the part
abbrev pub PartsDecide : (ℕ → Bool → Type 0) → List (Part ℕ) → Bool → Type 0
PartsDecide answers xs b =
    (passes : ℕ → Bool) → ((c : ℕ) (r : Bool) → answers c r → r ≡ passes c) → b ≡ list_any (λ x. passes x.at) xs

-- a fault, or else nothing more to say
abbrev pub refused_by : Option Refusal → Result (Unit {0}) Refusal
refused_by = unless tt

-- whether the marks have a place as held
abbrev pub is_marked : List (Option ℕ) → ℕ → Bool
is_marked marks c = is_some (slice_index_or marks c None)

-- the depth that the marks have for a place, 0 where it is not held
abbrev pub marked_depth : List (Option ℕ) → ℕ → ℕ
marked_depth marks c = unwrap_or (slice_index_or marks c None) 0

-- how many binders a part adds
abbrev pub deeper : Option ℕ → ℕ
deeper None = 0
deeper (Some a) = 1

-- the marks after a place of the depth d with these parts
abbrev pub marked : ℕ → List (Part ℕ) → List (Option ℕ) → List (Option ℕ)
marked d [] marks = marks
marked d (x ∷ xs) marks = marked d xs (slice_set marks x.at (Some (d + deeper x.under)))

-- what is wrong with the place p, as the marks tell it
abbrev pub fault_seen : ℕ → ℕ → List (Option ℕ) → ℕ → Place → Option Refusal
fault_seen many size marks p x =
    fault_by_tests many p x (list_any (outside p size) (parts_of x)) (held_among (is_marked marks) (parts_of x)) (nat_lt 64 (marked_depth marks p))
