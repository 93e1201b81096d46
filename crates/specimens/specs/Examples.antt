-- The worked examples, and that each comes out as listed. Assumes nothing. (docs/RULES.md, "Worked examples")
use Rattle.std.specs.Prelude.{ℕ, ◌≤◌, List, [], ◌∷◌, map, Ok, Err}
use Rattle.leaves.specs.Rates.{same_rate}
use Rattle.leaves.specs.declared.rate.Rate.{Rate}
use Rattle.recipe.specs.Checking.{needed}
use Rattle.recipe.specs.Histories.{Allowed, Entry, RightRun, request}
use Rattle.recipe.specs.Validity.{Valid}
use Rattle.recipe.specs.declared.labels.Finding.{Finding}
use Rattle.recipe.specs.declared.labels.Label.{Label}
use Rattle.recipe.specs.declared.places.Place.{Place}
use Rattle.recipe.specs.declared.refusals.Refusal.{Refusal}
use Rattle.specimens.specs.declared.specimen.Call.{Call}
use Rattle.specimens.specs.declared.specimen.Specimen.{Specimen}

-- a table, its leaves, and calls on its sheet with their answers
pub record Example : Type 0 where
  pub places : List Place
  pub leaves : List Rate
  pub history : List Entry

-- the table is valid, the calls are allowed, and on a memory with enough words each is answered as the rules say
pub record AsListed (e : Example) : Type 0 where
  pub valid : Valid e.places e.leaves
  pub allowed : Allowed (map request e.history)
  pub run : (words : ℕ) → needed e.places ≤ words → RightRun same_rate e.places e.leaves words (map request e.history) e.history

-- records of a table, by their forms
abbrev pub nil : Place
nil = record { kind = 0; a = 0; b = 0 }

abbrev pub leaf : ℕ → Place
leaf n = record { kind = 1; a = n; b = 0 }

abbrev pub name : ℕ → Place
name x = record { kind = 2; a = x; b = 0 }

abbrev pub hole : ℕ → Place
hole h = record { kind = 3; a = h; b = 0 }

abbrev pub bind : ℕ → ℕ → Place
bind a c = record { kind = 4; a = a; b = c }

abbrev pub call : ℕ → ℕ → Place
call c d = record { kind = 5; a = c; b = d }

-- calls with their answers
abbrev pub accepts : ℕ → ℕ → Entry
accepts p q = Entry.tell p q (Ok tt)

abbrev pub refuses : ℕ → ℕ → Refusal → Entry
refuses p q refusal = Entry.tell p q (Err refusal)

abbrev pub finds : ℕ → List ℕ → Finding → Entry
finds p path finding = Entry.look p path (Ok finding)

-- (lambda (a) X) and (lambda (b) b): accepted, X name a
abbrev pub identity : Example
identity = record {
  places = bind 0 1 ∷ hole 0 ∷ bind 1 3 ∷ name 1 ∷ [];
  leaves = [];
  history = accepts 0 2 ∷ finds 1 [] (Finding.Label (Label.Name 0)) ∷ [];
}

-- (lambda (a) (lambda (a) X)) and (lambda (c) (lambda (d) c)): 16 at 5
abbrev pub shadowed : Example
shadowed = record {
  places = bind 0 1 ∷ bind 0 2 ∷ hole 0 ∷ bind 1 4 ∷ bind 2 5 ∷ name 1 ∷ [];
  leaves = [];
  history = refuses 0 3 (Refusal.NamesDisagree 5) ∷ [];
}

-- (lambda (a) X) and (lambda (y) (lambda (a) y)): accepted, X bind, path 2 gives name a
abbrev pub renaming : Example
renaming = record {
  places = bind 0 1 ∷ hole 0 ∷ bind 1 3 ∷ bind 0 4 ∷ name 1 ∷ [];
  leaves = [];
  history = accepts 0 2 ∷ finds 1 [] (Finding.Label Label.Bind) ∷ finds 1 (2 ∷ []) (Finding.Label (Label.Name 0)) ∷ [];
}

-- X and (X '()): 15 at 0
abbrev pub endless : Example
endless = record {
  places = hole 0 ∷ call 2 3 ∷ hole 0 ∷ nil ∷ [];
  leaves = [];
  history = refuses 0 1 (Refusal.Cyclic 0) ∷ [];
}

-- (lambda (a) X) and (lambda (c) X): accepted; X and a: 16 at 5
abbrev pub unused_binders : Example
unused_binders = record {
  places = bind 0 1 ∷ hole 0 ∷ bind 1 3 ∷ hole 0 ∷ hole 0 ∷ name 0 ∷ [];
  leaves = [];
  history = accepts 0 2 ∷ refuses 4 5 (Refusal.NamesDisagree 5) ∷ [];
}

-- (lambda (a) X) and (lambda (b) b): accepted; (lambda (c) X) and (lambda (d) d): 16 at 7
abbrev pub two_binders : Example
two_binders = record {
  places = bind 0 1 ∷ hole 0 ∷ bind 1 3 ∷ name 1 ∷ bind 2 5 ∷ hole 0 ∷ bind 3 7 ∷ name 3 ∷ [];
  leaves = [];
  history = accepts 0 2 ∷ refuses 4 6 (Refusal.NamesDisagree 7) ∷ [];
}

-- X and (Y Y): accepted, X call, path 0 open, path 2 absent
abbrev pub twin_parts : Example
twin_parts = record {
  places = hole 0 ∷ call 2 3 ∷ hole 1 ∷ hole 1 ∷ [];
  leaves = [];
  history = accepts 0 1 ∷ finds 0 [] (Finding.Label Label.Call) ∷ finds 0 (0 ∷ []) Finding.Open ∷ finds 0 (2 ∷ []) Finding.Absent ∷ [];
}

-- 24 and 48/2: accepted
abbrev pub equal_rates : Example
equal_rates = record {
  places = leaf 0 ∷ leaf 1 ∷ [];
  leaves = record { numerator = 24; denominator = 1 } ∷ record { numerator = 48; denominator = 2 } ∷ [];
  history = accepts 0 1 ∷ [];
}

-- the worked examples
abbrev pub examples : List Example
examples = identity ∷ shadowed ∷ renaming ∷ endless ∷ unused_binders ∷ two_binders ∷ twin_parts ∷ equal_rates ∷ []

-- every example comes out as listed
abbrev pub AllAsListed : List Example → Type 0
AllAsListed [] = Unit {0}
AllAsListed (e ∷ es) = AsListed e × AllAsListed es

-- the entry of a call of the code
abbrev pub entry_of : Call → Entry
entry_of (Call.Tell p q answer) = Entry.tell p q answer
entry_of (Call.Look p path answer) = Entry.look p path.now answer

-- the example that a specimen of the code holds
abbrev pub example_of : Specimen → Example
example_of s = record { places = s.places.now; leaves = s.leaves.now; history = map entry_of s.calls.now }
