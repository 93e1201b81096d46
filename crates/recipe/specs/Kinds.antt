-- The numbers by which records have the kinds of what stands at a place. Assumes nothing. (docs/RULES.md, "Tables")
use Rattle.std.specs.Prelude.{◌≡◌, ℕ, ◌<◌, List, ◌++◌, codes, decimal, Result, MatchResult}
use Rattle.recipe.specs.declared.places.Kind.{Kind}
use Rattle.recipe.specs.declared.places.UnknownKind.{UnknownKind}

-- the number of a kind
abbrev pub code_of : Kind → ℕ
code_of Kind.Nil = 0
code_of Kind.Leaf = 1
code_of Kind.Name = 2
code_of Kind.Hole = 3
code_of Kind.Bind = 4
code_of Kind.Call = 5

-- r is the kind that has the number, or says that it is above them all
abbrev pub Decodes : ℕ → Result Kind UnknownKind → Type 0
Decodes number r = MatchResult r (λ kind. code_of kind ≡ number) (λ e. (e.0 ≡ number) × (5 < number))

-- a sentence with the number
abbrev pub unknown_kind_text : UnknownKind → List ℕ
unknown_kind_text unknown = codes "no kind has the number " ++ decimal unknown.0
