-- What is asked of a table, place by place, and the answer of `check`. Assumes nothing. (docs/RULES.md, "Checking a table")
use Rattle.std.specs.Prelude.{ℕ, suc, ◌+◌, ◌*◌, max, Bool, true, false, cond, not, ◌&&◌, ◌||◌, List, [], ◌∷◌, length, is_some, Some, None, Ok, Err, Option, Result, ◌==◌, nat_eq, nat_le, nat_lt, slice_index_or}
use Rattle.std.specs.List.{slice_get, list_any}
use Rattle.recipe.specs.declared.places.Place.{Place}
use Rattle.recipe.specs.declared.refusals.Refusal.{Refusal}
use Rattle.recipe.specs.Common.{first_below, first_that}
use Rattle.recipe.specs.Recipes.{Part}
use Rattle.recipe.specs.Tables.{Table, parts, table_of, holder_below, depth}

-- the numbers of a record fit its kind: leaves below `many`, names below 64, holes below 512, and what is not used is 0
abbrev pub numbers_fit : ℕ → Place → Bool
numbers_fit many x =
    slice_index_or
    ((x.a == 0 && x.b == 0) ∷ (nat_lt x.a many && x.b == 0) ∷ (nat_lt x.a 64 && x.b == 0) ∷ (nat_lt x.a 512 && x.b == 0) ∷ nat_lt x.a 64 ∷ true ∷ [])
    x.kind
    true

-- two of the parts are one place
abbrev pub twice : List (Part ℕ) → Bool
twice [] = false
twice (x ∷ xs) = list_any (λ y. nat_eq y.at x.at) xs || twice xs

-- a part is not a higher place than its holder p, or past the end of a table of `size` places
abbrev pub outside : ℕ → ℕ → Part ℕ → Bool
outside p size x = nat_le x.at p || nat_le size x.at

-- a part is held already, or two of the parts are one place
abbrev pub held_among : (ℕ → Bool) → List (Part ℕ) → Bool
held_among held xs = list_any (λ x. held x.at) xs || twice xs

module _ {L : Type 0} (T : Table L) (p : ℕ) where
  -- a part of p is not a higher place than p, or past the end
  abbrev pub bad_part : Bool
  bad_part = list_any (outside p T.size) (parts (T.form p))

  -- a lower place has a part of p too, or two parts of p are one place
  abbrev pub held_twice : Bool
  held_twice = held_among (λ c. is_some (holder_below T p c)) (parts (T.form p))

  -- more than 64 binders stand above p
  abbrev pub too_deep : Bool
  too_deep = nat_lt 64 (depth T p)

-- the refusal of the first fault of the place p, whose record is x, in the order of the tests; whether it has the last three is given
abbrev pub fault_by_tests : ℕ → ℕ → Place → Bool → Bool → Bool → Option Refusal
fault_by_tests many p x bad again deep =
    first_that
    ((nat_lt 5 x.kind, Refusal.UnknownKind p) ∷ (not (numbers_fit many x), Refusal.BadNumber p) ∷ (bad, Refusal.BadPart p) ∷ (again, Refusal.HeldTwice p) ∷ (deep, Refusal.TooDeep p) ∷ [])

-- what is wrong with the place p of a table, whose record is x
abbrev pub fault_of : {L : Type 0} → Table L → ℕ → ℕ → Place → Option Refusal
fault_of T many p x = fault_by_tests many p x (bad_part T p) (held_twice T p) (too_deep T p)

-- what is wrong at a place, if there is a record
abbrev pub fault_in : {L : Type 0} → Table L → ℕ → ℕ → Option Place → Option Refusal
fault_in T many p None = None
fault_in T many p (Some x) = fault_of T many p x

-- what is wrong with the place p of a table over a list of leaves
abbrev pub fault_at : {L : Type 0} → List Place → List L → ℕ → Option Refusal
fault_at places ls p = fault_in (table_of places ls) (length ls) p (slice_get places p)

-- one more than the name number of a name or a bind, and 0 for any other record
abbrev pub above_name : Place → ℕ
above_name x = cond (x.kind == 2 || x.kind == 4) (suc x.a) 0

-- one more than the highest name number, or 0 where there is none
abbrev pub name_count : List Place → ℕ
name_count [] = 0
name_count (x ∷ xs) = max (above_name x) (name_count xs)

-- the words of 32 bits that a table of n places with names below m needs
abbrev pub words_for : ℕ → ℕ → ℕ
words_for n m = n * (8 * m + 64) + 1024

-- the memory that a table needs, in words
abbrev pub needed : List Place → ℕ
needed places = words_for (length places) (name_count places)

-- a fault, or else an answer
abbrev pub unless : {A : Type 0} → A → Option Refusal → Result A Refusal
unless a None = Ok a
unless a (Some fault) = Err fault

-- the answer of `check`: the refusal of the whole, or else of the lowest place that has a fault, or else the memory needed
abbrev pub checked : {L : Type 0} → List Place → List L → Result ℕ Refusal
checked places ls =
    cond
    (nat_lt 512 (length places) || nat_lt 512 (length ls))
    (Err Refusal.TooLarge)
    (unless (needed places) (first_below (fault_at places ls) (length places)))
