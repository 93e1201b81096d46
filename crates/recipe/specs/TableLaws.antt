-- Laws of valid tables: filled texts and scopes go from place to part. Assumes nothing. (docs/RULES.md, "Fillings")
use Rattle.std.specs.Prelude.{◌≡◌, ℕ, ◌<◌, ◌⊎◌, List, []}
use Rattle.recipe.specs.declared.places.Place.{Place}
use Rattle.recipe.specs.Common.{In}
use Rattle.recipe.specs.Fillings.{Filling, filled, layer}
use Rattle.recipe.specs.Recipes.{Part}
use Rattle.recipe.specs.Scopes.{extended}
use Rattle.recipe.specs.Tables.{Table, Root, parts, scope, table_of}
use Rattle.recipe.specs.Validity.{Valid}

-- the place p is a part of some place
pub record Held {L : Type 0} (T : Table L) (p : ℕ) : Type 0 where
  pub holder : ℕ
  pub part : Part ℕ
  pub down : In part (parts (T.form holder))
  pub there : part.at ≡ p

-- filled texts are made of those of the parts; a root has no scope; a part has the scope of its holder, below its binder; and there are no other places
pub record ReadByParts {L : Type 0} (T : Table L) : Type 0 where
  pub text : (θ : Filling L) (p : ℕ) → filled T θ p ≡ layer θ (filled T θ) (T.form p)
  pub root : (p : ℕ) → Root T p → scope T p ≡ []
  pub part : (p : ℕ) (x : Part ℕ) → In x (parts (T.form p)) → scope T x.at ≡ extended x.under (scope T p)
  pub either : (p : ℕ) → p < T.size → Root T p ⊎ Held T p

-- this holds of every valid table
abbrev pub TableLaws : Type 0 → Type 0
TableLaws L = (places : List Place) (ls : List L) → Valid places ls → ReadByParts (table_of places ls)
