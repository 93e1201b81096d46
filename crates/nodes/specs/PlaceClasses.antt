-- A forest over the places of a table: two places have one root exactly if the told pairs link them. Assumes nothing. (docs/RULES.md, "Forests over places")
use Rattle.std.specs.Prelude.{◌≡◌, ℕ, ◌*◌, ◌<◌, ◌↔◌, List, [], ◌∷◌, ◌++◌, length}
use Rattle.std.specs.Option.{option_map}
use Rattle.recipe.specs.Common.{In}
use Rattle.recipe.specs.Fillings.{Pair}
use Rattle.recipe.specs.Labels.{part_at}
use Rattle.recipe.specs.Links.{Linked}
use Rattle.recipe.specs.Tables.{Form, Table, parts}
use Rattle.forest.specs.Exact.{Exact, Joined, Parts}
use Rattle.forest.specs.Rows.{root}

-- the part of a place at a step, as a side of its node
abbrev pub place_parts : {L : Type 0} → Table L → Parts
place_parts T p step = option_map (λ y. y.at) (part_at step (parts (T.form p)))

-- the forest has a node for each place, is exact for some pairs that are linked, and these join the told pairs and the places of one hole
pub record PlacesJoined {L : Type 0} (T : Table L) (told : List Pair) (rows : List ℕ) : Type 0 where
  pub long : length rows ≡ 4 * T.size
  pub pairs : List (ℕ × ℕ)
  pub exact : Exact (place_parts T) pairs rows
  pub linked : (p q : ℕ) → In (p, q) pairs → Linked T told p q
  pub tells : (p q : ℕ) → In (p, q) told → Joined (place_parts T) pairs p q
  pub holes : (p q h : ℕ) → T.form p ≡ Form.hole h → T.form q ≡ Form.hole h → Joined (place_parts T) pairs p q

-- it is so for some told pairs
abbrev pub SomePlacesJoined : {L : Type 0} → Table L → List ℕ → Type 0
SomePlacesJoined T rows = (told : List Pair) × PlacesJoined T told rows

-- and for some table
abbrev pub SomeJoined : List ℕ → Type 0
SomeJoined rows = (T : Table ℕ) × (told : List Pair) × PlacesJoined T told rows

-- so two places have one root exactly if they are linked
abbrev pub RootsLink : {L : Type 0} → Table L → List Pair → List ℕ → Type 0
RootsLink T told rows =
    (p q : ℕ) → p < T.size → q < T.size → (root rows p ≡ root rows q) ↔ Linked T told p q

-- they are so for some told pairs
abbrev pub SomeRootsLink : {L : Type 0} → Table L → List ℕ → Type 0
SomeRootsLink T rows = (told : List Pair) × RootsLink T told rows

-- one tell more, whatever the table and the tells so far
abbrev pub TellsMore : ℕ → ℕ → List ℕ → List ℕ → Type 0
TellsMore p q old new =
    (T : Table ℕ) (told : List Pair) → PlacesJoined T told old → PlacesJoined T (told ++ ((p, q) ∷ [])) new × RootsLink T (told ++ ((p, q) ∷ [])) new
