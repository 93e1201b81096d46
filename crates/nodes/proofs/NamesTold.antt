-- What one told pair of places says of names, joined in a forest over names. Assumes nothing.
use Rattle.std.proofs.Common.{◌≡◌, ℕ, suc, ◌+◌, ◌*◌, ◌<◌, true, ◌⊎◌, Some, None, Option, MatchOption, List, [], ◌∷◌, ◌++◌, length, refl, ap, inl, inr, arith}
use Rattle.std.proofs.lemmas.Bool.{both_ways, cases_lt}
use Rattle.std.proofs.lemmas.List.{append_assoc}
use Rattle.std.specs.Option.{is_some}
use Rattle.recipe.specs.Common.{In}
use Rattle.recipe.specs.Fillings.{Pair}
use Rattle.recipe.specs.Scopes.{NameEqual}
use Rattle.recipe.specs.Tables.{Table, scope}
use Rattle.recipe.proofs.EqualScopes.{name_symmetric}
use Rattle.closure.specs.Closures.{Closure}
use Rattle.closure.specs.Names.{NamesHeld, Node}
use Rattle.closure.proofs.ClosureGrown.{closure_over}
use Rattle.closure.proofs.EqualNames.{name_once}
use Rattle.forest.specs.Exact as forest
use Rattle.nodes.specs.NameClasses.{InTable, NamesSome, NumbersJoined, node_number}
use Rattle.nodes.specs.ToldNames.{HeldByPair, NumbersSaid, SaidFirst, SaidMore, SaidSecond, TellsNames}
use Rattle.nodes.proofs.NamesMore.{in_either, in_left, in_right, names_many, names_said}
use Rattle.nodes.proofs.PlacesLinked.{in_first, in_last, linked_more}

-- an answer that is there
pub said_if_some : (r : Option ℕ) (Not : Type 0) (Found : ℕ → Type 0) → is_some r ≡ true → MatchOption r Not Found → (x : ℕ) × Found x
said_if_some None Not Found e none = absurd (both_ways (is_some {T = ℕ} None) refl e)
said_if_some (Some x) Not Found e some = (x, some)

module _ {L : Type 0} (T : Table L) (m p q : ℕ) where
  -- nothing joined yet
  pub said_none : {Done : Node → Node → Type 0} (rows : List ℕ) → ((a b : Node) → Done a b → ⊥) → SaidMore T m p q Done rows rows
  said_none rows none = record { pairs = []; more = λ sub pairs exact. exact; said = λ u v i. absurd i; done = λ a b d. absurd (none a b d) }

  -- what is done, said in other words
  pub said_so : {Done Said : Node → Node → Type 0} {old new : List ℕ} → SaidMore T m p q Done old new → ((a b : Node) → Said a b → Done a b) → SaidMore T m p q Said old new
  said_so some to = record { pairs = some.pairs; more = some.more; said = some.said; done = λ a b s. some.done a b (to a b s) }

  -- one pair more that is said
  pub said_more : {Done More : Node → Node → Type 0} {old mid new : List ℕ} (u v : ℕ) → SaidMore T m p q Done old mid → NumbersSaid T m p q u v → forest.OneMore u v mid new → ((a b : Node) → More a b → Done a b ⊎ ((node_number m a ≡ u) × (node_number m b ≡ v))) → SaidMore T m p q More old new
  said_more u v some said more either = record {
    pairs = (u, v) ∷ some.pairs;
    more = λ sub pairs exact. more sub (some.pairs ++ pairs) (some.more sub pairs exact);
    said = λ a b i. elim i [ inl e ↦ rw (ap (λ w. w.0) e, ap (λ w. w.1) e) said | inr j ↦ some.said a b j ];
    done = λ a b k. elim (either a b k) [ inl d ↦ inr (some.done a b d) | inr e ↦ inl (rw (e.0, e.1) refl) ];
  }

module _ {L : Type 0} (T : Table L) (m p q : ℕ) where
  first_one : (x y : ℕ) → NameEqual (scope T p) x (scope T q) y → (a b : Node) → SaidFirst T p q (x + 1) a b → SaidFirst T p q x a b ⊎ ((node_number m a ≡ suc (p * m + x)) × (node_number m b ≡ suc (q * m + y)))
  first_one x y even a b (SaidFirst.equal {x = z} {y = w} low e) = elim (cases_lt z x) [
    | inl l ↦ inl (SaidFirst.equal l e)
    | inr past ↦
        let is : z ≡ x = omega arith in
        let same : w ≡ y = name_once (scope T p) (scope T q) x w y (rw is at e) even in inr (rw (is, same) (refl, refl))
  ]
  first_one x y even a b (SaidFirst.none {x = z} low none) = elim (cases_lt z x) [
    | inl l ↦ inl (SaidFirst.none l none)
    | inr past ↦ let is : z ≡ x = omega arith in absurd (none y (rw is even))
  ]

  -- a name of the first place with the name that is equal to it
  pub first_more : {old mid new : List ℕ} (x y : ℕ) → x < m → y < m → NameEqual (scope T p) x (scope T q) y → SaidMore T m p q (SaidFirst T p q x) old mid → forest.OneMore (suc (p * m + x)) (suc (q * m + y)) mid new → SaidMore T m p q (SaidFirst T p q (x + 1)) old new
  first_more x y low less even some more =
      said_more T m p q (suc (p * m + x)) (suc (q * m + y)) some (record { first = Node.name p x; second = Node.name q y; first_is = refl; second_is = refl; said = HeldByPair.told low less even }) more (first_one x y even)

  first_alone : (x : ℕ) → ((y : ℕ) → NameEqual (scope T p) x (scope T q) y → ⊥) → (a b : Node) → SaidFirst T p q (x + 1) a b → SaidFirst T p q x a b ⊎ ((node_number m a ≡ suc (p * m + x)) × (node_number m b ≡ 0))
  first_alone x none a b (SaidFirst.equal {x = z} {y = w} low e) = elim (cases_lt z x) [
    | inl l ↦ inl (SaidFirst.equal l e)
    | inr past ↦ let is : z ≡ x = omega arith in absurd (none w (rw is at e))
  ]
  first_alone x none a b (SaidFirst.none {x = z} low n) = elim (cases_lt z x) [
    | inl l ↦ inl (SaidFirst.none l n)
    | inr past ↦ let is : z ≡ x = omega arith in inr (rw is (refl, refl))
  ]

  -- a name of the first place to which none is equal
  pub first_hidden : {old mid new : List ℕ} (x : ℕ) → x < m → ((y : ℕ) → NameEqual (scope T p) x (scope T q) y → ⊥) → SaidMore T m p q (SaidFirst T p q x) old mid → forest.OneMore (suc (p * m + x)) 0 mid new → SaidMore T m p q (SaidFirst T p q (x + 1)) old new
  first_hidden x low none some more =
      said_more T m p q (suc (p * m + x)) 0 some (record { first = Node.name p x; second = Node.nowhere; first_is = refl; second_is = refl; said = HeldByPair.no_second low none }) more (first_alone x none)

  second_alone : (y : ℕ) → (a b : Node) → SaidSecond T p q (y + 1) a b → SaidSecond T p q y a b ⊎ ((node_number m a ≡ suc (q * m + y)) × (node_number m b ≡ 0))
  second_alone y a b (SaidSecond.none {y = z} low n) = elim (cases_lt z y) [
    | inl l ↦ inl (SaidSecond.none l n)
    | inr past ↦ let is : z ≡ y = omega arith in inr (rw is (refl, refl))
  ]

  -- a name of the second place to which none is equal
  pub second_hidden : {old mid new : List ℕ} (y : ℕ) → y < m → ((x : ℕ) → NameEqual (scope T q) y (scope T p) x → ⊥) → SaidMore T m p q (SaidSecond T p q y) old mid → forest.OneMore (suc (q * m + y)) 0 mid new → SaidMore T m p q (SaidSecond T p q (y + 1)) old new
  second_hidden y low none some more =
      said_more T m p q (suc (q * m + y)) 0 some (record { first = Node.name q y; second = Node.nowhere; first_is = refl; second_is = refl; said = HeldByPair.no_first low (λ x e. none x (name_symmetric (scope T p) (scope T q) x y e)) }) more (second_alone y)

  second_matched : (x y : ℕ) → NameEqual (scope T q) y (scope T p) x → (a b : Node) → SaidSecond T p q (y + 1) a b → SaidSecond T p q y a b
  second_matched x y even a b (SaidSecond.none {y = z} low n) = elim (cases_lt z y) [
    | inl l ↦ SaidSecond.none l n
    | inr past ↦ let is : z ≡ y = omega arith in absurd (n x (rw is (name_symmetric (scope T q) (scope T p) y x even)))
  ]

  -- a name of the second place to which one is equal
  pub second_skip : {old new : List ℕ} (x y : ℕ) → NameEqual (scope T q) y (scope T p) x → SaidMore T m p q (SaidSecond T p q y) old new → SaidMore T m p q (SaidSecond T p q (y + 1)) old new
  second_skip x y even some = said_so T m p q some (second_matched x y even)

  -- at first nothing is asked
  pub first_none : (rows : List ℕ) → SaidMore T m p q (SaidFirst T p q 0) rows rows
  first_none rows = said_none T m p q rows none
    where
      none : (a b : Node) → SaidFirst T p q 0 a b → ⊥
      none a b (SaidFirst.equal low e) = absurd (omega arith)
      none a b (SaidFirst.none low n) = absurd (omega arith)

  pub second_none : (rows : List ℕ) → SaidMore T m p q (SaidSecond T p q 0) rows rows
  second_none rows = said_none T m p q rows none
    where
      none : (a b : Node) → SaidSecond T p q 0 a b → ⊥
      none a b (SaidSecond.none low n) = absurd (omega arith)

module _ {L : Type 0} (T : Table L) (m : ℕ) (told : List Pair) (w : Pair) where
  -- with one tell more all is held that was
  held_more : (a b : Node) → NamesHeld T m told a b → NamesHeld T m (told ++ (w ∷ [])) a b
  held_more a b (NamesHeld.told {p = p} {q = q} i low less e) = NamesHeld.told (in_first (p, q) w told i) low less e
  held_more a b (NamesHeld.no_second {p = p} q i low none) = NamesHeld.no_second q (in_first (p, q) w told i) low none
  held_more a b (NamesHeld.no_first {q = q} p i low none) = NamesHeld.no_first p (in_first (p, q) w told i) low none
  held_more a b (NamesHeld.one_hole d e low) = NamesHeld.one_hole d e low
  held_more a b (NamesHeld.own_binder e) = NamesHeld.own_binder e
  held_more a b (NamesHeld.two_binders y z l i j s e f) = NamesHeld.two_binders y z (linked_more T told w l) i j s e f

  numbers_more : (u v : ℕ) → NumbersJoined T m told u v → NumbersJoined T m (told ++ (w ∷ [])) u v
  numbers_more u v k = record { first = k.first; second = k.second; first_in = k.first_in; second_in = k.second_in; first_is = k.first_is; second_is = k.second_is; joined = closure_over held_more k.joined }

  -- and the forest has joined nothing that is not joined
  pub tell_more : {Done : Node → Node → Type 0} {rows : List ℕ} → NamesSome T m told Done rows → NamesSome T m (told ++ (w ∷ [])) Done rows
  tell_more some = record { long = some.long; pairs = some.pairs; exact = some.exact; held = λ u v i. numbers_more u v (some.held u v i); done = some.done }

module _ {L : Type 0} (T : Table L) (m : ℕ) (told : List Pair) (p q : ℕ) (here : In (p, q) told) (first : p < T.size) (second : q < T.size) where
  -- what the pair says is held, of nodes in the table
  pair_joined : (a b : Node) → HeldByPair T m p q a b → NamesHeld T m told a b × InTable T m a × InTable T m b
  pair_joined a b (HeldByPair.told low less e) = (NamesHeld.told here low less e, InTable.name first low, InTable.name second less)
  pair_joined a b (HeldByPair.no_second low none) = (NamesHeld.no_second q here low none, InTable.name first low, InTable.nowhere)
  pair_joined a b (HeldByPair.no_first low none) = (NamesHeld.no_first p here low none, InTable.name second low, InTable.nowhere)

  numbers_said : (u v : ℕ) → NumbersSaid T m p q u v → NumbersJoined T m told u v
  numbers_said u v k =
      let (held, i, j) = pair_joined k.first k.second k.said in
      record { first = k.first; second = k.second; first_in = i; second_in = j; first_is = k.first_is; second_is = k.second_is; joined = Closure.held held }

  -- what the pair says is joined
  pub said_joined : {Done Said : Node → Node → Type 0} {old new : List ℕ} → NamesSome T m told Done old → length new ≡ length old → SaidMore T m p q Said old new → NamesSome T m told (λ a b. Done a b ⊎ Said a b) new
  said_joined some long said =
      let all = names_many T m told said.pairs some long (λ u v i. numbers_said u v (said.said u v i)) said.more in
      names_said T m told all (λ a b h. all.done a b (elim h [ inl d ↦ inl d | inr s ↦ inr (said.done a b s) ]))

module _ {L : Type 0} (T : Table L) (m p q : ℕ) where
  -- the names of both places: all that the pair says
  said_of_both : (a b : Node) → HeldByPair T m p q a b → SaidFirst T p q m a b ⊎ SaidSecond T p q m a b
  said_of_both a b (HeldByPair.told low less e) = inl (SaidFirst.equal low e)
  said_of_both a b (HeldByPair.no_second low none) = inl (SaidFirst.none low none)
  said_of_both a b (HeldByPair.no_first low none) = inr (SaidSecond.none low none)

  -- what is said of the names of the one place, and then of the other
  pub said_both : {old mid new : List ℕ} → SaidMore T m p q (SaidFirst T p q m) old mid → SaidMore T m p q (SaidSecond T p q m) mid new → TellsNames T m p q old new
  said_both {old = old} {new = new} one two = record {
    pairs = two.pairs ++ one.pairs;
    more = λ sub pairs exact. rw (append_assoc two.pairs one.pairs pairs) (two.more sub (one.pairs ++ pairs) (one.more sub pairs exact));
    said = λ u v i. elim (in_either (u, v) two.pairs one.pairs i) [ inl j ↦ two.said u v j | inr j ↦ one.said u v j ];
    done = λ a b h. elim (said_of_both a b h) [
      | inl s ↦ in_right (node_number m a, node_number m b) two.pairs one.pairs (one.done a b s)
      | inr s ↦ in_left (node_number m a, node_number m b) two.pairs one.pairs (two.done a b s)
    ];
  }

  -- so with one tell more what was done is done, and what the pair says
  pub names_told : (told : List Pair) {Done : Node → Node → Type 0} {old new : List ℕ} → p < T.size → q < T.size → length new ≡ length old → TellsNames T m p q old new → NamesSome T m told Done old → NamesSome T m (told ++ ((p, q) ∷ [])) (λ a b. Done a b ⊎ HeldByPair T m p q a b) new
  names_told told first second long said some = said_joined T m (told ++ ((p, q) ∷ [])) p q (in_last (p, q) told) first second (tell_more T m told (p, q) some) long said
