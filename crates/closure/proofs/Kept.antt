-- What a filling that satisfies the pairs keeps of the closures: so links, parts and joined names are consistent. Assumes nothing.
use Rattle.std.proofs.Common.{◌≡◌, ℕ, Bool, ◌↔◌, List, [], ◌∷◌, sym, refl, ◌∙◌, inl, inr}
use Rattle.recipe.specs.Common.{In}
use Rattle.recipe.specs.Fillings.{Filling, Pair, SatisfiesAll, filled, layer}
use Rattle.recipe.specs.Links.{Linked}
use Rattle.recipe.specs.Recipes.{Part, inside}
use Rattle.recipe.specs.Sameness.{Sameness}
use Rattle.recipe.specs.Scopes.{NameEqual}
use Rattle.recipe.specs.Tables.{Form, Table, parts, scope}
use Rattle.recipe.proofs.Shapes.{SameShape, equal_shape, filled_part, filled_piece, shapes_no_clash, shapes_no_cycle}
use Rattle.closure.specs.Closures.{Closure}
use Rattle.closure.specs.Decision.{Consistent, Spoiled, SpoiledAmong, WellFormed}
use Rattle.closure.specs.Names.{Node, NamesHeld, NamePart, Joined}
use Rattle.closure.proofs.EqualNames.{name_once, name_once_back}
use Rattle.closure.proofs.Forms.{bind_inside, rising}
use Rattle.closure.proofs.Layers.{filled_form}
use Rattle.closure.proofs.MatchedNames.{matched}
use Rattle.closure.proofs.Relations.{Always, beneath, parts_related, of_one_shape, binder_not_free, binders_along, FreeAt, Related, free_step, step_free, transport, transport_back, name_free, equal_related, converse, compose, identical}

module _ {L : Type 0} {same : L → L → Bool} (laws : Sameness same) {T : Table L} {m : ℕ} {pairs : List Pair} (ready : WellFormed T m pairs) (θ : Filling L) (satisfied : SatisfiesAll same T θ pairs) where
  -- the filled text of a place of a known form
  text : {p : ℕ} {f : Form L} → T.form p ≡ f → filled T θ p ≡ layer θ (filled T θ) f
  text = filled_form ready θ

  -- the texts of a told pair are related by equality of names in their scopes
  told_related : (p q : ℕ) → In (p, q) pairs → Related same (λ x y. NameEqual (scope T p) x (scope T q) y) (filled T θ p) (filled T θ q)
  told_related p q i = equal_related (satisfied (p, q) i)

  -- parts at one step of places that are filled by related recipes are too, below their binders
  filled_parts : (p q : ℕ) (y z : Part ℕ) → Related same Always (filled T θ p) (filled T θ q) → In y (parts (T.form p)) → In z (parts (T.form q)) → y.step ≡ z.step → Related same (beneath Always y.under z.under) (filled T θ y.at) (filled T θ z.at)
  filled_parts p q y z r i j e = parts_related (filled_part (filled T θ) y) (filled_part (filled T θ) z) r (filled_piece T θ (rising ready) p y i) (filled_piece T θ (rising ready) q z j) e

  -- linked places are filled by recipes of one shape, with names bound alike
  pub filled_related : {p q : ℕ} → Linked T pairs p q → Related same Always (filled T θ p) (filled T θ q)
  filled_related Linked.itself = identical laws Always _ (λ path x f. tt)
  filled_related (Linked.back l) = converse laws (filled_related l)
  filled_related (Linked.chain l k) = of_one_shape (compose laws (filled_related l) (filled_related k))
  filled_related (Linked.told i) = of_one_shape (told_related _ _ i)
  filled_related (Linked.one_hole {h = h} d e) = rw (text d, text e) (identical laws Always (θ h) (λ path x f. tt))
  filled_related (Linked.one_step x y l k i j e) = of_one_shape (filled_parts _ _ x y (filled_related l) i j e)

  -- a node is free at a spot of the filled text of its place; nowhere is free at none
  abbrev Spot : Node → List ℕ → Type 0
  Spot Node.nowhere path = ⊥
  Spot (Node.name p x) path = FreeAt (filled T θ p) path x

  -- a part of a node is free where the node is, below the step
  spot_up : {u v : Node} {s : ℕ} (path : List ℕ) → NamePart T u s v → Spot v path → Spot u (s ∷ path)
  spot_up path NamePart.nowhere f = f
  spot_up path (NamePart.name {p = p} {x = x} y i n) f = step_free (filled T θ p) (filled_part (filled T θ) y) path x (filled_piece T θ (rising ready) p y i) n f

  spot_down : {u v : Node} {s : ℕ} (path : List ℕ) → NamePart T u s v → Spot u (s ∷ path) → Spot v path
  spot_down path NamePart.nowhere f = f
  spot_down path (NamePart.name {p = p} {x = x} y i n) f = (free_step (filled T θ p) (filled_part (filled T θ) y) path x (filled_piece T θ (rising ready) p y i) f).1

  -- names that are equal in the scopes of two equal texts are free at the same spots
  told_free : (p q x y : ℕ) (path : List ℕ) → In (p, q) pairs → NameEqual (scope T p) x (scope T q) y → Spot (Node.name p x) path ↔ Spot (Node.name q y) path
  told_free p q x y path i e = (
    λ f. let (z, d, g) = transport (told_related p q i) f in rw (name_once (scope T p) (scope T q) x z y d e) at g,
    λ f. let (z, d, g) = transport_back laws (told_related p q i) f in rw (name_once_back (scope T p) (scope T q) z x y d e) at g,
  )

  -- so are two nodes that are held
  held_free : {u v : Node} (path : List ℕ) → NamesHeld T m pairs u v → Spot u path ↔ Spot v path
  held_free path (NamesHeld.told {p = p} {q = q} {x = x} {y = y} i h k e) = told_free p q x y path i e
  held_free path (NamesHeld.no_second {p = p} q i h none) = (λ f. let (z, d, g) = transport (told_related p q i) f in none z d, λ f. absurd f)
  held_free path (NamesHeld.no_first {q = q} p i h none) = (λ f. let (z, d, g) = transport_back laws (told_related p q i) f in none z d, λ f. absurd f)
  held_free path (NamesHeld.one_hole {x = x} d e h) = let one = text d ∙ sym (text e) in (λ f. rw one at f, λ f. rw (← one) at f)
  held_free path (NamesHeld.own_binder {p = p} {a = a} {c = c} e) =
      let y = inside a c in
      (binder_not_free (filled_part (filled T θ) y) (filled_piece T θ (rising ready) p y (bind_inside (T.form p) a c e)) refl, λ f. absurd f)
  held_free path (NamesHeld.two_binders {a = a} {b = b} y z l i j s d e) = binders_along laws Always a b path (rw (d, e) at (filled_parts _ _ y z (filled_related l) i j s))

  -- joined nodes are free at the same spots
  joined_free : {u v : Node} (path : List ℕ) → Joined T m pairs u v → Spot u path ↔ Spot v path
  joined_free path Closure.itself = (λ f. f, λ f. f)
  joined_free path (Closure.back j) = let e = joined_free path j in (e.1, e.0)
  joined_free path (Closure.chain j k) = let d = joined_free path j in let e = joined_free path k in (λ f. e.0 (d.0 f), λ f. d.1 (e.1 f))
  joined_free path (Closure.held h) = held_free path h
  joined_free path (Closure.part {s = s} j c d) =
      let e = joined_free (s ∷ path) j in
      (λ f. spot_down path d (e.0 (spot_up path c f)), λ f. spot_down path c (e.1 (spot_up path d f)))

  -- joined names are free at the same spots, and what is nowhere is free at none
  pub free_joined : {p q x y : ℕ} → Joined T m pairs (Node.name p x) (Node.name q y) → (path : List ℕ) → FreeAt (filled T θ p) path x → FreeAt (filled T θ q) path y
  free_joined j path = (joined_free path j).0

  pub free_nowhere : {p x : ℕ} → Joined T m pairs (Node.name p x) Node.nowhere → (path : List ℕ) → FreeAt (filled T θ p) path x → ⊥
  free_nowhere j path = (joined_free path j).0

  -- a name place has its own name at the spot, and no other
  name_spot : {p x : ℕ} → T.form p ≡ Form.name x → Spot (Node.name p x) []
  name_spot e = rw (text e) FreeAt.here

  spot_name : {p x y : ℕ} → T.form p ≡ Form.name x → Spot (Node.name p y) [] → y ≡ x
  spot_name e f = name_free (rw (text e) at f)

  -- so no name place is spoiled
  unspoiled : {p : ℕ} → Spoiled T m pairs p → ⊥
  unspoiled (SpoiledAmong.gone e j) = free_nowhere j [] (name_spot e)
  unspoiled (SpoiledAmong.double e n j) = n (spot_name e (free_joined j [] (name_spot e)))
  unspoiled (SpoiledAmong.apart {p = p} {x = x} d e u l n) =
      let between = matched ready l in
      elim (between.first x (ready.names p x d)) [
        | inl j ↦ free_nowhere j [] (name_spot d)
        | inr (z, w) ↦ let j = between.joined x z w in n (rw (spot_name e (free_joined j [] (name_spot d))) at j)
      ]

  pub consistent : Consistent same T m pairs
  consistent =
      let shapes : (pair : Pair) → In pair pairs → SameShape same (filled T θ pair.0) (filled T θ pair.1) = λ pair i. equal_shape (satisfied pair i) in
      record { no_clash = shapes_no_clash laws T θ (rising ready) pairs shapes; no_cycle = shapes_no_cycle laws T θ (rising ready) pairs shapes; no_spoiled = λ p s. unspoiled s }
