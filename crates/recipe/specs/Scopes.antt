-- Scopes, and when two names are equal, each in its scope. Assumes nothing. (docs/RULES.md, "Scopes")
use Rattle.std.specs.Prelude.{◌≡◌, ℕ, suc, cond, ◌⊎◌, List, [], ◌∷◌, Some, None, Option, ◌==◌}
use Rattle.std.specs.Option.{option_map}

-- the names of the binders above, innermost first
abbrev pub Scope : Type 0
Scope = List ℕ

-- the scope of a part that stands under a binder, or under none
abbrev pub extended : Option ℕ → Scope → Scope
extended None Φ = Φ
extended (Some a) Φ = a ∷ Φ

-- the inner number of a name: the first position, from 0, at which the scope has it; none where the name is free
unfoldable pub inner : Scope → ℕ → Option ℕ
inner [] x = None
inner (a ∷ Φ) x = cond (a == x) (Some 0) (option_map suc (inner Φ x))

-- two names are equal in their scopes: both free and one name, or both bound with one inner number
abbrev pub NameEqual : Scope → ℕ → Scope → ℕ → Type 0
NameEqual Φ x Ψ y =
    ((inner Φ x ≡ None) × (inner Ψ y ≡ None) × (x ≡ y)) ⊎ ((k : ℕ) × (inner Φ x ≡ Some k) × (inner Ψ y ≡ Some k))
