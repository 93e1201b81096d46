-- What a forest over names has joined of the binders and holes of a table. Assumes nothing. (docs/RULES.md, "Forests over names")
use Rattle.std.specs.Prelude.{◌≡◌, ℕ, zero, suc, ◌+◌, ◌*◌, ◌<◌, List, [], ◌∷◌, ◌++◌, Some, None, Option}
use Rattle.recipe.specs.Common.{In}
use Rattle.recipe.specs.Fillings.{Pair}
use Rattle.recipe.specs.Recipes.{Part}
use Rattle.recipe.specs.Tables.{Form, Table, parts}
use Rattle.closure.specs.Names.{Node}
use Rattle.forest.specs.Exact.{Exact, Parts}
use Rattle.nodes.specs.NameClasses.{NamesSome}

-- what the binders and holes alone say of names below m, whatever the pairs
pub data HeldAlways {L : Type 0} (T : Table L) (m : ℕ) : Node → Node → Type 0 where
  own_binder : {p a c : ℕ} → T.form p ≡ Form.bind a c → HeldAlways T m (Node.name p a) Node.nowhere
  one_hole : {p q h x : ℕ} → T.form p ≡ Form.hole h → T.form q ≡ Form.hole h → x < m → HeldAlways T m (Node.name p x) (Node.name q x)

-- a forest over names has joined what is done, whatever the told pairs
abbrev pub NamesAlways : {L : Type 0} → Table L → ℕ → (Node → Node → Type 0) → List ℕ → Type 0
NamesAlways T m Done rows = (told : List Pair) → NamesSome T m told Done rows

-- the names of binders are below m
abbrev pub BindersFew : {L : Type 0} → Table L → ℕ → Type 0
BindersFew T m = (p a : ℕ) (y : Part ℕ) → In y (parts (T.form p)) → y.under ≡ Some a → a < m

-- the name of a bind, or none for another form
abbrev pub binder_of_form : {L : Type 0} → Form L → Option ℕ
binder_of_form Form.nil = None
binder_of_form (Form.leaf l) = None
binder_of_form (Form.name x) = None
binder_of_form (Form.hole h) = None
binder_of_form (Form.bind a c) = Some a
binder_of_form (Form.call c d) = None

-- the name of a bind at its place, and nowhere, for the places below n
pub data BinderBelow {L : Type 0} (T : Table L) (n : ℕ) : Node → Node → Type 0 where
  own : {p a : ℕ} → p < n → binder_of_form (T.form p) ≡ Some a → BinderBelow T n (Node.name p a) Node.nowhere

-- the pairs of the numbers of the names below k, of m, at two places
abbrev pub same_names : ℕ → ℕ → ℕ → ℕ → List (ℕ × ℕ)
same_names m p q zero = []
same_names m p q (suc x) = (suc (p * m + x), suc (q * m + x)) ∷ same_names m p q x

-- these pairs more: whatever the parts and pairs so far, what was exact for these is exact with the new ones
abbrev pub PairsMore : List (ℕ × ℕ) → List ℕ → List ℕ → Type 0
PairsMore more old new = (sub : Parts) (pairs : List (ℕ × ℕ)) → Exact sub pairs old → Exact sub (more ++ pairs) new

-- exact for some parts and pairs
abbrev pub IsExact : List ℕ → Type 0
IsExact rows = (sub : Parts) × (pairs : List (ℕ × ℕ)) × Exact sub pairs rows
