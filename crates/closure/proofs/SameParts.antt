-- Two tables with the same parts, over leaves of any types: what scopes, links, ways and joined names there are in the one goes over to the other. Assumes nothing.
use Rattle.std.proofs.Common.{◌≡◌, ℕ, zero, suc, ◌≤◌, ◌⊎◌, List, sym, refl, ap, ◌∙◌, subst, inl, inr, arith}
use mathlib.Core.Path.{fun_ext}
use Rattle.recipe.specs.Common.{In, first_below}
use Rattle.recipe.specs.Fillings.{Pair}
use Rattle.recipe.specs.Links.{Linked, Reaches, ComesBack, kind_of}
use Rattle.recipe.specs.Recipes.{Part}
use Rattle.recipe.specs.Tables.{Form, Table, parts, holds_by, holder, scope_under, scope_within, scope}
use Rattle.recipe.specs.Tells.{NoCycle}
use Rattle.recipe.specs.Validity.{Ordered}
use Rattle.closure.specs.Closures.{Closure}
use Rattle.closure.specs.Causes.{Misnamed}
use Rattle.closure.specs.Decision.{SpoiledAmong, WellFormed}
use Rattle.closure.specs.Names.{Node, NamesHeld, NamePart, Joined}

-- the second table has the size, the parts and the binds of the first, and the kind of each place with parts; places of one hole in the first are one place or of one hole in the second
pub record SameParts {L M : Type 0} (T : Table L) (U : Table M) : Type 0 where
  pub size : T.size ≡ U.size
  pub at : (p : ℕ) → parts (T.form p) ≡ parts (U.form p)
  pub kinds : (p : ℕ) (y : Part ℕ) → In y (parts (T.form p)) → kind_of (T.form p) ≡ kind_of (U.form p)
  pub binds : (p a c : ℕ) → T.form p ≡ Form.bind a c → U.form p ≡ Form.bind a c
  pub holes : (p q h : ℕ) → T.form p ≡ Form.hole h → T.form q ≡ Form.hole h → (p ≡ q) ⊎ ((k : ℕ) × (U.form p ≡ Form.hole k) × (U.form q ≡ Form.hole k))

module _ {L M : Type 0} {T : Table L} {U : Table M} (alike : SameParts T U) where
  same_holder : (p : ℕ) → holder T p ≡ holder U p
  same_holder p = ap (λ (f : ℕ → List (Part ℕ)). first_below (λ q. holds_by q (f q) p) p) (fun_ext alike.at)

  same_within : (n p : ℕ) → scope_within T n p ≡ scope_within U n p
  unfolding scope_within
  same_within zero p = refl
  same_within (suc n) p = ap (scope_under (scope_within T n)) (same_holder p) ∙ ap (λ f. scope_under f (holder U p)) (fun_ext (same_within n))

  pub same_scope : (p : ℕ) → scope T p ≡ scope U p
  same_scope p = same_within p p

  pub part_over : (p : ℕ) (y : Part ℕ) → In y (parts (T.form p)) → In y (parts (U.form p))
  part_over p y i = subst (In y) (alike.at p) i

  part_back : (p : ℕ) (y : Part ℕ) → In y (parts (U.form p)) → In y (parts (T.form p))
  part_back p y i = subst (In y) (sym (alike.at p)) i

  pub ordered_over : Ordered T → Ordered U
  ordered_over ordered = record {
    rising = λ p y i. rw (← alike.size) (ordered.rising p y (part_back _ y i));
    once = λ p q x y i j. ordered.once p q x y (part_back _ x i) (part_back _ y j);
    shallow = λ p h. rw (← same_scope p) (ordered.shallow p (rw alike.size h));
  }

  -- what is well formed in the one table is so in the other, if that has nil where the one has, and names at most where the one has
  pub well_formed_over : {m : ℕ} {pairs : List Pair} → ((p : ℕ) → T.form p ≡ Form.nil → U.form p ≡ Form.nil) → ((p x : ℕ) → U.form p ≡ Form.name x → T.form p ≡ Form.name x) → WellFormed T m pairs → WellFormed U m pairs
  well_formed_over nils names ready = record {
    ordered = ordered_over ready.ordered;
    past = λ p h. nils p (ready.past p (rw alike.size h));
    names = λ p x e. ready.names p x (names p x e);
    binders = λ p a y i. ready.binders p a y (part_back _ y i);
    told = λ p q i. rw (← same_scope p, ← same_scope q, ← alike.size) (ready.told p q i);
  }

  node_part_over : {u v : Node} {s : ℕ} → NamePart T u s v → NamePart U u s v
  node_part_over NamePart.nowhere = NamePart.nowhere
  node_part_over (NamePart.name y i n) = NamePart.name y (part_over _ y i) n

  module _ {pairs : List Pair} where
    pub linked_over : {p q : ℕ} → Linked T pairs p q → Linked U pairs p q
    linked_over Linked.itself = Linked.itself
    linked_over (Linked.back l) = Linked.back (linked_over l)
    linked_over (Linked.chain l k) = Linked.chain (linked_over l) (linked_over k)
    linked_over (Linked.told i) = Linked.told i
    linked_over (Linked.one_hole {p = p} {q = q} {h = h} d e) = elim (alike.holes p q h d e) [ inl s ↦ rw s Linked.itself | inr o ↦ Linked.one_hole o.1 o.2 ]
    linked_over (Linked.one_step x y l k i j e) = Linked.one_step x y (linked_over l) (sym (alike.kinds _ x i) ∙ k ∙ alike.kinds _ y j) (part_over _ x i) (part_over _ y j) e

    reaches_over : {p q : ℕ} → Reaches T pairs p q → Reaches U pairs p q
    reaches_over Reaches.here = Reaches.here
    reaches_over (Reaches.to_linked l r) = Reaches.to_linked (linked_over l) (reaches_over r)
    reaches_over (Reaches.to_part x i r) = Reaches.to_part x (part_over _ x i) (reaches_over r)

    pub back_over : {p : ℕ} → ComesBack T pairs p → ComesBack U pairs p
    back_over b = record { holder = b.holder; part = b.part; there = reaches_over b.there; down = part_over b.holder b.part b.down; return = reaches_over b.return }

    module _ {m : ℕ} where
      held_over : {u v : Node} → NamesHeld T m pairs u v → Joined U m pairs u v
      held_over (NamesHeld.told {p = p} {q = q} i h k e) = Closure.held (NamesHeld.told i h k (rw (same_scope p, same_scope q) at e))
      held_over (NamesHeld.no_second {p = p} q i h none) = Closure.held (NamesHeld.no_second q i h (λ y. rw (same_scope p, same_scope q) at (none y)))
      held_over (NamesHeld.no_first {q = q} p i h none) = Closure.held (NamesHeld.no_first p i h (λ x. rw (same_scope p, same_scope q) at (none x)))
      held_over (NamesHeld.one_hole {p = p} {q = q} {h = h} {x = x} d e l) =
          elim (alike.holes p q h d e) [ inl s ↦ rw s Closure.itself | inr o ↦ Closure.held (NamesHeld.one_hole o.1 o.2 l) ]
      held_over (NamesHeld.own_binder e) = Closure.held (NamesHeld.own_binder (alike.binds _ _ _ e))
      held_over (NamesHeld.two_binders y z l i j s d e) = Closure.held (NamesHeld.two_binders y z (linked_over l) (part_over _ y i) (part_over _ z j) s d e)

      pub joined_over : {u v : Node} → Joined T m pairs u v → Joined U m pairs u v
      joined_over Closure.itself = Closure.itself
      joined_over (Closure.back j) = Closure.back (joined_over j)
      joined_over (Closure.chain j k) = Closure.chain (joined_over j) (joined_over k)
      joined_over (Closure.held h) = held_over h
      joined_over (Closure.part j i k) = Closure.part (joined_over j) (node_part_over i) (node_part_over k)

-- a misnamed place is a name place
pub misnamed_name : {L : Type 0} {T : Table L} {m : ℕ} {pairs : List Pair} {p : ℕ} → Misnamed T m pairs p → (x : ℕ) × (T.form p ≡ Form.name x)
misnamed_name (SpoiledAmong.gone {x = x} e j) = (x, e)
misnamed_name (SpoiledAmong.double {x = x} e n j) = (x, e)
misnamed_name (SpoiledAmong.apart {x = x} d e h l n) = (x, d)

-- what speaks of all places goes over by the way back
module _ {L M : Type 0} {T : Table L} {U : Table M} (there : SameParts T U) (back : SameParts U T) {pairs : List Pair} where
  pub no_cycle_over : NoCycle T pairs → NoCycle U pairs
  no_cycle_over none p c = none p (back_over back c)

  -- a misnamed place is one in the other table, if that has its names up to the place
  pub misnamed_over : {m p : ℕ} → ((q x : ℕ) → q ≤ p → T.form q ≡ Form.name x → U.form q ≡ Form.name x) → Misnamed T m pairs p → Misnamed U m pairs p
  misnamed_over names (SpoiledAmong.gone e j) = SpoiledAmong.gone (names _ _ (omega arith) e) (joined_over there j)
  misnamed_over names (SpoiledAmong.double e n j) = SpoiledAmong.double (names _ _ (omega arith) e) n (joined_over there j)
  misnamed_over names (SpoiledAmong.apart d e h l n) = SpoiledAmong.apart (names _ _ (omega arith) d) (names _ _ (omega arith) e) h (linked_over there l) (λ j. n (joined_over back j))
