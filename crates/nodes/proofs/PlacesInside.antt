-- What is joined or linked lies in the table. Assumes nothing.
use Rattle.std.proofs.Common.{◌≡◌, ℕ, ◌<◌, ◌≤◌, ◌⊎◌, List, Some, None, refl, sym, inl, inr, arith}
use Rattle.std.proofs.lemmas.Bool.{cases_lt}
use Rattle.std.specs.Option.{option_map}
use Rattle.recipe.specs.Common.{In}
use Rattle.recipe.specs.Fillings.{Pair}
use Rattle.recipe.specs.Labels.{part_at}
use Rattle.recipe.specs.Links.{Linked}
use Rattle.recipe.specs.Recipes.{Part}
use Rattle.recipe.specs.Tables.{Form, Table, parts}
use Rattle.closure.specs.Closures.{Closure}
use Rattle.forest.specs.Exact.{Joined}
use Rattle.forest.specs.Rows.{IsNode}
use Rattle.nodes.specs.PlaceClasses.{PlacesJoined, place_parts}
use Rattle.nodes.proofs.PlaceParts.{part_is_found}

-- one place, or two of the table
abbrev pub Together : ℕ → ℕ → ℕ → Type 0
Together n p q = (p ≡ q) ⊎ ((p < n) × (q < n))

pub turned : {p q : ℕ} (n : ℕ) → Together n p q → Together n q p
turned n (inl e) = inl (sym e)
turned n (inr (h, k)) = inr (k, h)

chained : {p q r : ℕ} (n : ℕ) → Together n p q → Together n q r → Together n p r
chained n (inl e) t = rw e t
chained n (inr (h, k)) (inl e) = inr (h, rw (← e) k)
chained n (inr (h, k)) (inr (l, m)) = inr (h, m)

pub moved_in : {p q : ℕ} (n : ℕ) → Together n p q → p < n → q < n
moved_in n (inl e) h = rw (← e) h
moved_in n (inr (h, k)) l = k

module _ {L : Type 0} (T : Table L) (told : List Pair) (rows : List ℕ) (past : (p : ℕ) → T.size ≤ p → T.form p ≡ Form.nil) (joined : PlacesJoined T told rows) where
  form_inside : (p : ℕ) → (T.form p ≡ Form.nil → ⊥) → p < T.size
  form_inside p solid = elim (cases_lt p T.size) [ inl l ↦ l | inr l ↦ absurd (solid (past p l)) ]

  pub node : (p : ℕ) → p < T.size → IsNode rows p
  node p h = omega (arith, joined.long)

  pub place : (p : ℕ) → IsNode rows p → p < T.size
  place p h = omega (arith, joined.long)

  -- the parts of places of the table are places of it, and so is what has parts
  solid_part : (p s c : ℕ) → place_parts T p s ≡ Some c → T.form p ≡ Form.nil → ⊥
  solid_part p s c at e = let gone : option_map (λ y. y.at) (part_at s (parts (T.form p))) ≡ None = rw e refl in cc

  pub holder_inside : (p : ℕ) (x : Part ℕ) → In x (parts (T.form p)) → p < T.size
  holder_inside p x i = form_inside p (solid_part p x.step x.at (part_is_found (T.form p) x i).1)

  stepped : (p s c : ℕ) → s < 3 → place_parts T p s ≡ Some c → c < T.size
  stepped p s c low at = place c (joined.exact.nodes p s c (node p (form_inside p (solid_part p s c at))) low at)

  pub part_inside : (p : ℕ) (x : Part ℕ) → In x (parts (T.form p)) → x.at < T.size
  part_inside p x i = let (low, at) = part_is_found (T.form p) x i in stepped p x.step x.at low at

  -- what is joined is one place, or two of the table
  joined_inside : {u v : ℕ} → Joined (place_parts T) joined.pairs u v → Together T.size u v
  joined_inside Closure.itself = inl refl
  joined_inside (Closure.back w) = turned T.size (joined_inside w)
  joined_inside (Closure.chain w x) = chained T.size (joined_inside w) (joined_inside x)
  joined_inside (Closure.held {u = u} {v = v} i) = let t = joined.exact.told u v i in inr (place u t.0, place v t.1)
  joined_inside (Closure.part {u = u} {v = v} {c = c} {d = d} {s = s} w y z) = inr (stepped u s c y.0 y.1, stepped v s d z.0 z.1)

  -- and so is what is linked
  pub linked_inside : {p q : ℕ} → Linked T told p q → Together T.size p q
  linked_inside Linked.itself = inl refl
  linked_inside (Linked.back l) = turned T.size (linked_inside l)
  linked_inside (Linked.chain l m) = chained T.size (linked_inside l) (linked_inside m)
  linked_inside (Linked.told {p = p} {q = q} i) = joined_inside (joined.tells p q i)
  linked_inside (Linked.one_hole {p = p} {q = q} d e) = inr (form_inside p (λ f. let g = d in cc), form_inside q (λ f. let g = e in cc))
  linked_inside (Linked.one_step {p = p} {q = q} x y l k i j e) = inr (part_inside p x i, part_inside q y j)
