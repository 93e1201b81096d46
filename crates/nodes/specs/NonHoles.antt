-- The lowest place of a class that is no hole, or that the class is open. Assumes nothing. (docs/RULES.md, "Forests over places")
use Rattle.std.specs.Prelude.{◌≡◌, ℕ, ◌≢◌, List, Option, MatchOption}
use Rattle.recipe.specs.Common.{Least}
use Rattle.recipe.specs.Fillings.{Pair}
use Rattle.recipe.specs.Links.{Linked, kind_of}
use Rattle.recipe.specs.Tables.{Table}
use Rattle.closure.specs.Decision.{OnlyHoles}
use Rattle.forest.specs.Rows.{root}
use Rattle.nodes.specs.Records.{written_form}

-- a place has the root of p, and is no hole (only a private function cites it)
pub record NonHoleMate (rows ws : List ℕ) (p q : ℕ) : Type 0 where
  pub one_root : root rows p ≡ root rows q
  pub no_hole : kind_of (written_form ws q) ≢ 3

-- all places that are linked with p are holes, or this is the lowest of them that is none
abbrev pub FindsNonHole : {L : Type 0} → Table L → List Pair → ℕ → Option ℕ → Type 0
FindsNonHole T told p r =
    MatchOption r (OnlyHoles T told p) (Least (λ q. Linked T told p q × (kind_of (T.form q) ≢ 3)))
