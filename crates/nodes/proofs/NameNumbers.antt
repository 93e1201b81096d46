-- The numbers of nodes of names, and their parts in the forest. Assumes nothing.
use Rattle.std.proofs.Common.{◌≡◌, ◌≢◌, ℕ, suc, ◌+◌, ◌*◌, ◌/◌, ◌%◌, ◌<◌, ◌≤◌, Bool, true, false, cond, eqb, ◌⊎◌, List, [], ◌∷◌, Some, None, Option, refl, sym, ap, ◌∙◌, inl, inr, arith, eq-eqb, ne_eqb}
use Rattle.std.proofs.Math.Nat.{mul-le-mul_right, mul_comm, suc-mul}
use Rattle.std.proofs.lemmas.Bool.{eqb-true, both_ways}
use Rattle.std.proofs.lemmas.Nat.{div-mul-add, mod-mul-add, mul-add-lt}
use Rattle.std.proofs.lemmas.Option.{none-some}
use Rattle.recipe.specs.Common.{In}
use Rattle.recipe.specs.Labels.{part_at}
use Rattle.recipe.specs.Recipes.{Part}
use Rattle.recipe.specs.Tables.{Form, Table, parts}
use Rattle.recipe.specs.Validity.{Ordered}
use Rattle.closure.specs.Names.{NamePart, Node}
use Rattle.nodes.specs.NameClasses.{InTable, binds, name_at, name_parts, node_number}

-- the place and the name of a number
pub place_of : (m p x : ℕ) → x < m → (p * m + x) / m ≡ p
place_of m p x low = div-mul-add p m x low

pub name_of : (m p x : ℕ) → x < m → (p * m + x) % m ≡ x
name_of m p x low = mod-mul-add p m x low

-- names below m at two places with one number are one
pub number_once : (m p q x y : ℕ) → x < m → y < m → p * m + x ≡ q * m + y → (p ≡ q) × (x ≡ y)
number_once m p q x y low less e =
    (sym (place_of m p x low) ∙ ap (λ k. k / m) e ∙ place_of m q y less, sym (name_of m p x low) ∙ ap (λ k. k % m) e ∙ name_of m q y less)

-- the names of a place end no later than those of all places
pub names_end : (m p n : ℕ) → p < n → p * m + m ≤ m * n
names_end m p n low =
    let more : suc p * m ≤ n * m = mul-le-mul_right m low in
    let first = suc-mul p m in
    let second = mul_comm n m in omega arith

-- one step of `part_stands`
stands_more : (step : ℕ) (x y : Part ℕ) (xs : List (Part ℕ)) (b : Bool) → eqb x.step step ≡ b → cond b (Some x) (part_at step xs) ≡ Some y → (part_at step xs ≡ Some y → In y xs × (y.step ≡ step)) → In y (x ∷ xs) × (y.step ≡ step)
stands_more step x y xs true is e rest = let f : x ≡ y = cc in rw (← f) (inl refl, eqb-true x.step step is)
stands_more step x y xs false is e rest = let r = rest e in (inr r.0, r.1)

-- what is found at a step stands among the parts, at that step
pub part_stands : (xs : List (Part ℕ)) (step : ℕ) (y : Part ℕ) → part_at step xs ≡ Some y → In y xs × (y.step ≡ step)
part_stands [] step y e = absurd (none-some y e)
part_stands (x ∷ xs) step y e = stands_more step x y xs (eqb x.step step) refl e (part_stands xs step y)

module _ {L : Type 0} where
  -- each part of a form is found at its step, one of three
  pub part_is_there : (f : Form L) (x : Part ℕ) → In x (parts f) → (x.step < 3) × (part_at x.step (parts f) ≡ Some x)
  part_is_there Form.nil x i = absurd i
  part_is_there (Form.leaf l) x i = absurd i
  part_is_there (Form.name n) x i = absurd i
  part_is_there (Form.hole h) x i = absurd i
  part_is_there (Form.bind a c) x (inl e) = rw e (omega arith, refl)
  part_is_there (Form.bind a c) x (inr i) = absurd i
  part_is_there (Form.call c d) x (inl e) = rw e (omega arith, refl)
  part_is_there (Form.call c d) x (inr (inl e)) = rw e (omega arith, refl)
  part_is_there (Form.call c d) x (inr (inr i)) = absurd i

-- a binder that binds the name, and one that does not
binder_told : (x : ℕ) (u : Option ℕ) → binds x u ≡ true → u ≡ Some x
binder_told x None e = absurd (both_ways _ refl e)
binder_told x (Some a) e = ap Some (eqb-true a x e)

binder_free : (x : ℕ) (u : Option ℕ) → u ≢ Some x → binds x u ≡ false
binder_free x None apart = refl
binder_free x (Some a) apart = ne_eqb a x (λ e. apart (ap Some e))

binder_apart : (x : ℕ) (u : Option ℕ) → binds x u ≡ false → u ≢ Some x
binder_apart x u e f = both_ways (binds x u) e (rw f (eq-eqb x x refl))

module _ {L : Type 0} (T : Table L) (m : ℕ) where
  -- the nodes of the table have numbers below the number of rows
  pub number_below : {a : Node} → InTable T m a → node_number m a < suc (m * T.size)
  number_below InTable.nowhere = omega arith
  number_below (InTable.name {p = p} {x = x} low less) = let below = mul-add-lt p m x T.size low less in omega arith

  -- and each has a number of its own
  pub number_tells : {a b : Node} → InTable T m a → InTable T m b → node_number m a ≡ node_number m b → a ≡ b
  number_tells InTable.nowhere InTable.nowhere e = refl
  number_tells InTable.nowhere (InTable.name low less) e = absurd (omega arith)
  number_tells (InTable.name low less) InTable.nowhere e = absurd (omega arith)
  number_tells (InTable.name {p = p} {x = x} low less) (InTable.name {p = q} {x = y} below fewer) e =
      let one = number_once m p q x y less fewer (omega arith) in
      let first = one.0 in
      let second = one.1 in cc

  -- the parts of the number of a name
  parts_of : (p x s : ℕ) → x < m → name_parts T m (suc (p * m + x)) s ≡ name_at m x (part_at s (parts (T.form p)))
  parts_of p x s less = rw (place_of m p x less, name_of m p x less) refl

  -- a part of a node is found among the parts of its place
  abbrev PartFound : Node → ℕ → Node → Type 0
  PartFound Node.nowhere s c = c ≡ Node.nowhere
  PartFound (Node.name p x) s c = (y : Part ℕ) × (part_at s (parts (T.form p)) ≡ Some y) × (c ≡ Node.name y.at x)

  part_found : {a c : Node} {s : ℕ} → NamePart T a s c → PartFound a s c
  part_found NamePart.nowhere = refl
  part_found (NamePart.name {p = p} y i free) = (y, (part_is_there (T.form p) y i).1, refl)

  found_once : (a c d : Node) (s : ℕ) → PartFound a s c → PartFound a s d → c ≡ d
  found_once Node.nowhere c d s e f = e ∙ sym f
  found_once (Node.name p x) c d s (y, at, is) (z, by, so) = let same : y ≡ z = cc in cc

  -- a node has one part at a step
  pub name_part_once : {a c d : Node} {s : ℕ} → NamePart T a s c → NamePart T a s d → c ≡ d
  name_part_once {a = a} {c = c} {d = d} {s = s} one two = found_once a c d s (part_found one) (part_found two)

  -- what a part of a node in the table is: in the table, and the part of its number
  pub record NumberPart (a : Node) (s : ℕ) (c : Node) : Type 0 where
    pub inside : InTable T m c
    pub part : name_parts T m (node_number m a) s ≡ Some (node_number m c)
    pub side : (s < 3) ⊎ (c ≡ Node.nowhere)

  module _ (ordered : Ordered T) where
    number_of_name : (p x : ℕ) (y : Part ℕ) → x < m → In y (parts (T.form p)) → y.under ≢ Some x → NumberPart (Node.name p x) y.step (Node.name y.at x)
    number_of_name p x y less i free =
        let (low, at) = part_is_there (T.form p) y i in
        record {
          inside = InTable.name (ordered.rising p y i).1 less;
          part = parts_of p x y.step less ∙ rw (at, binder_free x y.under free) refl;
          side = inl low;
        }

    pub number_of_part : {a c : Node} {s : ℕ} → InTable T m a → NamePart T a s c → NumberPart a s c
    number_of_part InTable.nowhere NamePart.nowhere = record { inside = InTable.nowhere; part = refl; side = inr refl }
    number_of_part (InTable.name {p = p} {x = x} low less) (NamePart.name y i free) = number_of_name p x y less i free

    -- a part of the number of a node is the number of a part of the node
    abbrev pub PartOf : Node → ℕ → ℕ → Type 0
    PartOf a s c = (b : Node) × NamePart T a s b × (node_number m b ≡ c)

    name_free : (p x s c : ℕ) (y : Part ℕ) → part_at s (parts (T.form p)) ≡ Some y → (b : Bool) → binds x y.under ≡ b → cond b None (Some (suc (y.at * m + x))) ≡ Some c → PartOf (Node.name p x) s c
    name_free p x s c y at true is e = absurd (none-some c e)
    name_free p x s c y at false is e =
        let (i, step) = part_stands (parts (T.form p)) s y at in
        (Node.name y.at x, rw (← step) (NamePart.name y i (binder_apart x y.under is)), let f : ◌≡◌ {A = Option ℕ} (Some (suc (y.at * m + x))) (Some c) = e in cc)

    name_found : (p x s c : ℕ) (r : Option (Part ℕ)) → part_at s (parts (T.form p)) ≡ r → name_at m x r ≡ Some c → PartOf (Node.name p x) s c
    name_found p x s c None at e = absurd (none-some c e)
    name_found p x s c (Some y) at e = name_free p x s c y at (binds x y.under) refl e

    pub part_of_number : {a : Node} (s c : ℕ) → InTable T m a → name_parts T m (node_number m a) s ≡ Some c → PartOf a s c
    part_of_number s c InTable.nowhere e = (Node.nowhere, NamePart.nowhere, let f : ◌≡◌ {A = Option ℕ} (Some 0) (Some c) = e in cc)
    part_of_number s c (InTable.name {p = p} {x = x} low less) e = name_found p x s c (part_at s (parts (T.form p))) refl (sym (parts_of p x s less) ∙ e)
