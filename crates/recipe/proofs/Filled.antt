-- The laws of filling over a table whose parts are higher places of it. Assumes nothing.
use Rattle.std.proofs.Common.{◌≡◌, ℕ, zero, suc, ◌+◌, ◌<◌, ◌≤◌, List, refl, ap, inl, inr, arith}
use Rattle.std.proofs.lemmas.Option.{slice_get_past}
use Rattle.recipe.specs.Common.{In}
use Rattle.recipe.specs.Fillings.{Filling, filled, filled_within, layer}
use Rattle.recipe.specs.Recipes.{Recipe, Part, left, right, inside}
use Rattle.recipe.specs.Tables.{Form, Table, form_at, parts, table_of}
use Rattle.recipe.specs.Validity.{Valid}
use Rattle.recipe.specs.declared.places.Place.{Place}

-- parts are higher places of the table, and nothing stands past its end
pub record Rising {L : Type 0} (T : Table L) : Type 0 where
  pub up : (p : ℕ) (x : Part ℕ) → In x (parts (T.form p)) → (p < x.at) × (x.at < T.size)
  pub past : (p : ℕ) → T.size ≤ p → T.form p ≡ Form.nil

module _ {L : Type 0} (T : Table L) (θ : Filling L) (rising : Rising T) where
  -- two ways to fill the parts of a form that agree on its parts
  layer_ap : (f g : ℕ → Recipe L) (form : Form L) → ((x : Part ℕ) → In x (parts form) → f x.at ≡ g x.at) → layer θ f form ≡ layer θ g form
  layer_ap f g Form.nil agree = refl
  layer_ap f g (Form.leaf l) agree = refl
  layer_ap f g (Form.name x) agree = refl
  layer_ap f g (Form.hole h) agree = refl
  layer_ap f g (Form.bind a c) agree = ap (Recipe.bind a) (agree (inside a c) (inl refl))
  layer_ap f g (Form.call c d) agree =
      let l : f c ≡ g c = agree (left c) (inl refl) in
      let r : f d ≡ g d = agree (right d) (inr (inl refl)) in
      cc

  -- as many levels as there are places from p on are enough
  enough : (m n p : ℕ) → T.size ≤ p + m → T.size ≤ p + n → p < T.size → filled_within T θ m p ≡ filled_within T θ n p
  unfolding filled_within
  enough zero n p hm hn h = absurd (omega arith)
  enough (suc m) zero p hm hn h = absurd (omega arith)
  enough (suc m) (suc n) p hm hn h =
      layer_ap (filled_within T θ m) (filled_within T θ n) (T.form p) (λ x at. let u = rising.up p x at in enough m n x.at (omega arith) (omega arith) u.1)

  within_layer : (n p : ℕ) → T.size ≡ n → filled_within T θ n p ≡ layer θ (filled T θ) (T.form p)
  unfolding filled_within
  within_layer zero p e = let nothing = rising.past p (omega arith) in rw nothing
  within_layer (suc n) p e =
      layer_ap (filled_within T θ n) (filled T θ) (T.form p) (λ x at. let u = rising.up p x at in enough n T.size x.at (omega arith) (omega arith) u.1)

  -- the filled text of a place, from those of its parts
  pub filled_layer : (p : ℕ) → filled T θ p ≡ layer θ (filled T θ) (T.form p)
  filled_layer p = within_layer T.size p refl

-- a valid table is such a table
pub valid_rising : {L : Type 0} (places : List Place) (ls : List L) → Valid places ls → Rising (table_of places ls)
valid_rising places ls v = record {
  up = v.ordered.rising;
  past = λ p h. ap (form_at ls) (slice_get_past places p h);
}
