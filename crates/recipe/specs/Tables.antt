-- Tables of places as the rules see them: what stands at a place, its parts, its holder and its scope. Assumes nothing. (docs/RULES.md, "Tables")
use Rattle.std.specs.Prelude.{ℕ, zero, suc, ◌<◌, Bool, nat_eq, cond, List, [], ◌∷◌, length, Some, None, Option, ◌==◌, ◌≢◌, slice_index_or}
use Rattle.std.specs.List.{list_any, slice_get}
use Rattle.recipe.specs.declared.places.Place.{Place}
use Rattle.recipe.specs.Common.{first_below, In}
use Rattle.recipe.specs.Recipes.{Part, left, right, inside}
use Rattle.recipe.specs.Scopes.{Scope, extended}

-- what stands at a place: as a recipe, with places for parts, or a hole
pub data Form (L : Type 0) : Type 0 where
  nil : Form L
  leaf : L → Form L
  name : ℕ → Form L
  hole : ℕ → Form L
  bind : ℕ → ℕ → Form L
  call : ℕ → ℕ → Form L

-- a table: how many places it has, and what stands at each
pub record Table (L : Type 0) : Type 0 where
  pub size : ℕ
  pub form : ℕ → Form L

-- the parts of a form, each with the binder that it stands under; holders, scopes, depths, links and the check go by them
abbrev pub parts : {L : Type 0} → Form L → List (Part ℕ)
parts Form.nil = []
parts (Form.leaf l) = []
parts (Form.name x) = []
parts (Form.hole h) = []
parts (Form.bind a c) = inside a c ∷ []
parts (Form.call c d) = left c ∷ right d ∷ []

-- a leaf of the list, or nil where the list has none there
abbrev pub leaf_form : {L : Type 0} → Option L → Form L
leaf_form None = Form.nil
leaf_form (Some l) = Form.leaf l

-- the form of a kind with the numbers a and b, and the leaf that a means: 0 nil, 1 leaf, 2 name, 3 hole, 4 bind, 5 call; nil for any other
abbrev pub form_by : {L : Type 0} → Option L → ℕ → ℕ → ℕ → Form L
form_by one a b kind =
    slice_index_or (Form.nil ∷ leaf_form one ∷ Form.name a ∷ Form.hole a ∷ Form.bind a b ∷ Form.call a b ∷ []) kind Form.nil

-- the form of a record over a list of leaves
abbrev pub form_of : {L : Type 0} → List L → Place → Form L
form_of ls x = form_by (slice_get ls x.a) x.a x.b x.kind

-- whether a record has the place p as a part
abbrev pub has_part : ℕ → Place → Bool
has_part p x = list_any (λ y. nat_eq y.at p) (parts (form_of {L = Unit {0}} [] x))

-- the form at a place, or nil past the end
abbrev pub form_at : {L : Type 0} → List L → Option Place → Form L
form_at ls None = Form.nil
form_at ls (Some x) = form_of ls x

-- the table of a list of records, over a list of leaves
abbrev pub table_of : {L : Type 0} → List Place → List L → Table L
table_of places ls = record { size = length places; form = λ p. form_at ls (slice_get places p) }

-- the table without places
abbrev pub empty_table : {L : Type 0} → Table L
empty_table = record { size = 0; form = λ p. Form.nil }

-- who holds a place, and the binder under which it does
pub record Holder : Type 0 where
  pub place : ℕ
  pub under : Option ℕ

-- whether the place c is among the parts of the place p, and how p holds it
abbrev pub holds_by : ℕ → List (Part ℕ) → ℕ → Option Holder
holds_by p [] c = None
holds_by p (x ∷ xs) c = cond (x.at == c) (Some (record { place = p; under = x.under })) (holds_by p xs c)

-- the first of the places below n that holds the place c
abbrev pub holder_below : {L : Type 0} → Table L → ℕ → ℕ → Option Holder
holder_below T n c = first_below (λ p. holds_by p (parts (T.form p)) c) n

-- the holder of a place, which is a lower place; a root has none
abbrev pub holder : {L : Type 0} → Table L → ℕ → Option Holder
holder T c = holder_below T c c

-- the scope of a place with this holder, from the scopes of lower places
abbrev pub scope_under : (ℕ → Scope) → Option Holder → Scope
scope_under scope_of None = []
scope_under scope_of (Some h) = extended h.under (scope_of h.place)

-- the names of the binders above a place, within n holders above it
unfoldable pub scope_within : {L : Type 0} → Table L → ℕ → ℕ → Scope
scope_within T zero p = []
scope_within T (suc n) p = scope_under (scope_within T n) (holder T p)

-- the scope of a place: the names of the binders above it, innermost first (a holder is a lower place, so p holders are enough: `TableLaws`)
abbrev pub scope : {L : Type 0} → Table L → ℕ → Scope
scope T p = scope_within T p p

-- how many binders stand above a place
abbrev pub depth : {L : Type 0} → Table L → ℕ → ℕ
depth T p = length (scope T p)

-- a root is a place that no place holds
abbrev pub Root : {L : Type 0} → Table L → ℕ → Type 0
Root T p = (p < T.size) × ((q : ℕ) (x : Part ℕ) → In x (parts (T.form q)) → x.at ≢ p)
