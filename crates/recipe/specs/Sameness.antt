-- What a sameness of leaves has to be: an equivalence, as the trait `Leaf` asks it of every kind. Assumes nothing. (docs/RULES.md, "Leaf kinds")
use Rattle.std.specs.Prelude.{◌≡◌, Bool, true}

pub record Sameness {L : Type 0} (same : L → L → Bool) : Type 0 where
  pub reflexive : (x : L) → same x x ≡ true
  pub symmetric : (x y : L) → same x y ≡ true → same y x ≡ true
  pub transitive : (x y z : L) → same x y ≡ true → same y z ≡ true → same x z ≡ true
