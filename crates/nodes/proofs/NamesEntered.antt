-- Both forests before any tell, and with one tell more: what the pair says, and the binders of the binds that are linked then. Assumes nothing.
use Rattle.std.proofs.Common.{◌≡◌, ℕ, ◌<◌, ◌⊎◌, List, [], ◌∷◌, ◌++◌, length, subst, inl, inr}
use Rattle.recipe.specs.Fillings.{Pair}
use Rattle.recipe.specs.Tables.{Table}
use Rattle.closure.specs.Names.{NamesHeld, Node}
use Rattle.nodes.specs.Binders.{TiesBinders, TwoBinders}
use Rattle.nodes.specs.NameClasses.{NamesJoined, NamesSome, name_parts}
use Rattle.nodes.specs.NameSteps.{HeldAlways, IsExact, NamesAlways, PairsMore}
use Rattle.nodes.specs.ToldNames.{HeldByPair, TellsNames}
use Rattle.nodes.proofs.BindersTied.{names_tied}
use Rattle.nodes.proofs.NamesMore.{names_to}
use Rattle.nodes.proofs.NamesTold.{names_told}
use Rattle.nodes.proofs.PlacesLinked.{in_both}

-- a forest over names is exact for some pairs
pub some_exact : {L : Type 0} (T : Table L) (m : ℕ) (told : List Pair) {Done : Node → Node → Type 0} {rows : List ℕ} → NamesSome T m told Done rows → IsExact rows
some_exact T m told some = (name_parts T m, some.pairs, some.exact)

-- with pairs more a forest is exact for some pairs still
pub exact_more : (pairs : List (ℕ × ℕ)) {old new : List ℕ} → PairsMore pairs old new → IsExact old → IsExact new
exact_more pairs more (sub, some, exact) = (sub, pairs ++ some, more sub some exact)

module _ {L : Type 0} (T : Table L) (m : ℕ) where
  -- before any tell nothing is held but what binders and holes say, and binders of linked binds
  first_cases : (a b : Node) → NamesHeld T m [] a b → HeldAlways T m a b ⊎ TwoBinders T [] a b
  first_cases _ _ (NamesHeld.told i low less e) = absurd i
  first_cases _ _ (NamesHeld.no_second q i low none) = absurd i
  first_cases _ _ (NamesHeld.no_first p i low none) = absurd i
  first_cases _ _ (NamesHeld.one_hole d e low) = inl (HeldAlways.one_hole d e low)
  first_cases _ _ (NamesHeld.own_binder e) = inl (HeldAlways.own_binder e)
  first_cases _ _ (NamesHeld.two_binders y z l i j s e f) = inr (TwoBinders.two_binders y z l i j s e f)

  pub names_opened : {old new : List ℕ} → NamesAlways T m (HeldAlways T m) old → TiesBinders T m [] old new → length new ≡ length old → NamesJoined T m [] new
  names_opened {old = old} {new = new} always ties long = names_to T m [] first_cases (names_tied T m [] old new ties long (always []))

module _ {L : Type 0} (T : Table L) (m : ℕ) (told : List Pair) (p q : ℕ) where
  -- the pairs with the new one
  abbrev Told : List Pair
  Told = told ++ ((p, q) ∷ [])

  -- said of a pair that is this one
  said_of : {s t : ℕ} {a b : Node} → ◌≡◌ {A = Pair} (s, t) (p, q) → HeldByPair T m s t a b → HeldByPair T m p q a b
  said_of {a = a} {b = b} e h = subst (λ w. HeldByPair T m w.0 w.1 a b) e h

  -- all that is held was held before, or is said by the pair, or by binders of linked binds
  held_cases : (a b : Node) → NamesHeld T m Told a b → (NamesHeld T m told a b ⊎ HeldByPair T m p q a b) ⊎ TwoBinders T Told a b
  held_cases _ _ (NamesHeld.told {p = s} {q = t} i low less e) = elim (in_both (s, t) (p, q) told i) [
    | inl j ↦ inl (inl (NamesHeld.told j low less e))
    | inr f ↦ inl (inr (said_of f (HeldByPair.told low less e)))
  ]
  held_cases _ _ (NamesHeld.no_second {p = s} t i low none) = elim (in_both (s, t) (p, q) told i) [
    | inl j ↦ inl (inl (NamesHeld.no_second t j low none))
    | inr f ↦ inl (inr (said_of f (HeldByPair.no_second low none)))
  ]
  held_cases _ _ (NamesHeld.no_first {q = t} s i low none) = elim (in_both (s, t) (p, q) told i) [
    | inl j ↦ inl (inl (NamesHeld.no_first s j low none))
    | inr f ↦ inl (inr (said_of f (HeldByPair.no_first low none)))
  ]
  held_cases _ _ (NamesHeld.one_hole d e low) = inl (inl (NamesHeld.one_hole d e low))
  held_cases _ _ (NamesHeld.own_binder e) = inl (inl (NamesHeld.own_binder e))
  held_cases _ _ (NamesHeld.two_binders y z l i j s e f) = inr (TwoBinders.two_binders y z l i j s e f)

  -- so with the names of the pair and the binders of linked binds all that is held is joined
  pub names_entered : {old between new : List ℕ} → p < T.size → q < T.size → NamesJoined T m told old → TellsNames T m p q old between → length between ≡ length old → TiesBinders T m Told between new → length new ≡ length between → NamesJoined T m Told new
  names_entered {between = between} {new = new} first second some said long ties same =
      names_to T m Told held_cases (names_tied T m Told between new ties same (names_told T m p q told first second long said some))
