-- Recipes of one token. Assumes nothing.
use Rattle.std.proofs.Common.{◌≡◌, ℕ, suc, ◌≤◌, ◌<◌, List, [], ◌∷◌, length, refl, ap, sym, subst, ◌∙◌, None, Ok, Err, Result}
use Rattle.tokens.specs.Tokens.{Token}
use Rattle.tokens.specs.declared.classes.Class.{Class}
use Rattle.recipe.specs.declared.places.Place.{Place}
use Rattle.recipe.specs.declared.refusals.Refusal.{Refusal}
use Rattle.notation.specs.declared.lent_lists.LentLists.{LentLists}
use Rattle.notation.specs.Fitting.{Room, with_word}
use Rattle.notation.specs.Grammar.{Tree, Spells}
use Rattle.notation.specs.Tables.{row, number}
use Rattle.notation.specs.Machine.{Awaited, Used, one_place, one_name, one_hole, one_leaf, step, wrong, Stops}
use Rattle.notation.specs.Threading.{used_by, rows, overwritten}
use Rattle.notation.specs.LentLists.{AddedPlace, AddedPlaceOrFull}
use Rattle.notation.specs.Taking.{AllShort, TookRecipe, TookRecipeOrNone}
use Rattle.notation.proofs.Turned.{stop_wrong}
use Rattle.notation.proofs.Turning.{turn_class, full_class, stands_within, places_full, names_full, holes_full, leaves_full}

no_recipe : (c : Class) → (c ≡ Class.Open → ⊥) → (c ≡ Class.Nil → ⊥) → (c ≡ Class.Leaf → ⊥) → (c ≡ Class.Name → ⊥) → (c ≡ Class.Hole → ⊥) → (K : List Awaited) → step (Awaited.recipe ∷ K) c ≡ None
no_recipe Class.Open o n l a h K = absurd (o refl)
no_recipe Class.Close o n l a h K = refl
no_recipe Class.Nil o n l a h K = absurd (n refl)
no_recipe Class.Lambda o n l a h K = refl
no_recipe Class.Name o n l a h K = absurd (a refl)
no_recipe Class.Hole o n l a h K = absurd (h refl)
no_recipe Class.Leaf o n l a h K = absurd (l refl)
no_recipe Class.Unknown o n l a h K = refl

module _ (most : Room) (size d : ℕ) (used : Used) (k : Token) (s : List Token) where
  -- none
  pub atom_wrong : (k.class ≡ Class.Open → ⊥) → (k.class ≡ Class.Nil → ⊥) → (k.class ≡ Class.Leaf → ⊥) → (k.class ≡ Class.Name → ⊥) → (k.class ≡ Class.Hole → ⊥) → Stops most size (Awaited.recipe ∷ []) d used (k ∷ s) (wrong k.class k.start)
  atom_wrong o n l a h = stop_wrong most size Awaited.recipe d used k s (no_recipe k.class o n l a h)

  -- no room
  pub nil_full : k.class ≡ Class.Nil → most.places < suc used.places → Stops most size (Awaited.recipe ∷ []) d used (k ∷ s) (Refusal.NoRoom k.start)
  nil_full h full = full_class most size Awaited.recipe d used k s Class.Nil h [] (λ K. refl) (places_full most d (one_place used) full)

  pub leaf_place_full : k.class ≡ Class.Leaf → most.places < suc used.places → Stops most size (Awaited.recipe ∷ []) d used (k ∷ s) (Refusal.NoRoom k.start)
  leaf_place_full h full = full_class most size Awaited.recipe d used k s Class.Leaf h [] (λ K. refl) (places_full most d (one_leaf (one_place used)) full)

  pub leaf_full : k.class ≡ Class.Leaf → most.leaves < suc used.leaves → Stops most size (Awaited.recipe ∷ []) d used (k ∷ s) (Refusal.NoRoom k.start)
  leaf_full h full = full_class most size Awaited.recipe d used k s Class.Leaf h [] (λ K. refl) (leaves_full most d (one_leaf (one_place used)) full)

  pub name_place_full : k.class ≡ Class.Name → most.places < suc used.places → Stops most size (Awaited.recipe ∷ []) d used (k ∷ s) (Refusal.NoRoom k.start)
  name_place_full h full = full_class most size Awaited.recipe d used k s Class.Name h [] (λ K. refl) (places_full most d (one_name k.bytes (one_place used)) full)

  pub name_full : k.class ≡ Class.Name → most.names < length (with_word used.names k.bytes) → Stops most size (Awaited.recipe ∷ []) d used (k ∷ s) (Refusal.NoRoom k.start)
  name_full h full = full_class most size Awaited.recipe d used k s Class.Name h [] (λ K. refl) (names_full most d (one_name k.bytes (one_place used)) full)

  pub hole_place_full : k.class ≡ Class.Hole → most.places < suc used.places → Stops most size (Awaited.recipe ∷ []) d used (k ∷ s) (Refusal.NoRoom k.start)
  hole_place_full h full = full_class most size Awaited.recipe d used k s Class.Hole h [] (λ K. refl) (places_full most d (one_hole k.bytes (one_place used)) full)

  pub hole_full : k.class ≡ Class.Hole → most.holes < length (with_word used.holes k.bytes) → Stops most size (Awaited.recipe ∷ []) d used (k ∷ s) (Refusal.NoRoom k.start)
  hole_full h full = full_class most size Awaited.recipe d used k s Class.Hole h [] (λ K. refl) (holes_full most d (one_hole k.bytes (one_place used)) full)

  module _ (deep : d ≤ 128) (short : AllShort s) (table middle : List Place) (same : middle ≡ table) (f : LentLists) (n : ℕ) where
    pub atom_nil : k.class ≡ Class.Nil → AddedPlace most used (row 0 0 0) middle f n → TookRecipe most size d used (k ∷ s) s table f n
    unfolding used_by rows
    atom_nil h a =
        record {
          tree = Tree.nil;
          spells = Spells.nil h;
          turns = turn_class most size Awaited.recipe d used k s Class.Nil h [] (λ K. refl) (stands_within most d _ f a.stands deep);
          number_is = a.number_is;
          written = a.written ∙ ap (λ q. overwritten used.places (row 0 0 0 ∷ []) q) same;
          stands = a.stands;
          short = short;
        }

    pub atom_leaf : k.class ≡ Class.Leaf → AddedPlace most (one_leaf used) (row 1 used.leaves 0) middle f n → TookRecipe most size d used (k ∷ s) s table f n
    unfolding used_by rows
    atom_leaf h a =
        record {
          tree = Tree.leaf k.bytes;
          spells = Spells.leaf (record { class = h; bytes = refl });
          turns = turn_class most size Awaited.recipe d used k s Class.Leaf h [] (λ K. refl) (stands_within most d _ f a.stands deep);
          number_is = a.number_is;
          written = a.written ∙ ap (λ q. overwritten used.places (row 1 used.leaves 0 ∷ []) q) same;
          stands = a.stands;
          short = short;
        }

    pub atom_name : k.class ≡ Class.Name → AddedPlace most (one_name k.bytes used) (row 2 (number used.names k.bytes) 0) middle f n → TookRecipe most size d used (k ∷ s) s table f n
    unfolding used_by rows
    atom_name h a =
        record {
          tree = Tree.name k.bytes;
          spells = Spells.name (record { class = h; bytes = refl });
          turns = turn_class most size Awaited.recipe d used k s Class.Name h [] (λ K. refl) (stands_within most d _ f a.stands deep);
          number_is = a.number_is;
          written = a.written ∙ ap (λ q. overwritten used.places (row 2 (number used.names k.bytes) 0 ∷ []) q) same;
          stands = a.stands;
          short = short;
        }

    pub atom_hole : k.class ≡ Class.Hole → AddedPlace most (one_hole k.bytes used) (row 3 (number used.holes k.bytes) 0) middle f n → TookRecipe most size d used (k ∷ s) s table f n
    unfolding used_by rows
    atom_hole h a =
        record {
          tree = Tree.hole k.bytes;
          spells = Spells.hole (record { class = h; bytes = refl });
          turns = turn_class most size Awaited.recipe d used k s Class.Hole h [] (λ K. refl) (stands_within most d _ f a.stands deep);
          number_is = a.number_is;
          written = a.written ∙ ap (λ q. overwritten used.places (row 3 (number used.holes k.bytes) 0 ∷ []) q) same;
          stands = a.stands;
          short = short;
        }

  module _ (deep : d ≤ 128) (short : AllShort s) (table middle : List Place) (same : middle ≡ table) (f : LentLists) (y : Place) where
    -- a place that was added, or for which there is no room
    pub nil_answers : k.class ≡ Class.Nil → y ≡ row 0 0 0 → (answer : Result ℕ Refusal) → AddedPlaceOrFull most used y middle f k.start answer → TookRecipeOrNone most size d used (k ∷ s) s table f answer
    nil_answers h e (Ok n) a = atom_nil deep short table middle same f n h (subst (λ z. AddedPlace most used z middle f n) e a)
    nil_answers h e (Err r) a = subst (λ z. Stops most size (Awaited.recipe ∷ []) d used (k ∷ s) z) (sym a.1) (nil_full h a.0)

    pub leaf_answers : k.class ≡ Class.Leaf → y ≡ row 1 used.leaves 0 → (answer : Result ℕ Refusal) → AddedPlaceOrFull most (one_leaf used) y middle f k.start answer → TookRecipeOrNone most size d used (k ∷ s) s table f answer
    leaf_answers h e (Ok n) a = atom_leaf deep short table middle same f n h (subst (λ z. AddedPlace most (one_leaf used) z middle f n) e a)
    leaf_answers h e (Err r) a = subst (λ z. Stops most size (Awaited.recipe ∷ []) d used (k ∷ s) z) (sym a.1) (leaf_place_full h a.0)

    pub name_answers : k.class ≡ Class.Name → y ≡ row 2 (number used.names k.bytes) 0 → (answer : Result ℕ Refusal) → AddedPlaceOrFull most (one_name k.bytes used) y middle f k.start answer → TookRecipeOrNone most size d used (k ∷ s) s table f answer
    name_answers h e (Ok n) a = atom_name deep short table middle same f n h (subst (λ z. AddedPlace most (one_name k.bytes used) z middle f n) e a)
    name_answers h e (Err r) a = subst (λ z. Stops most size (Awaited.recipe ∷ []) d used (k ∷ s) z) (sym a.1) (name_place_full h a.0)

    pub hole_answers : k.class ≡ Class.Hole → y ≡ row 3 (number used.holes k.bytes) 0 → (answer : Result ℕ Refusal) → AddedPlaceOrFull most (one_hole k.bytes used) y middle f k.start answer → TookRecipeOrNone most size d used (k ∷ s) s table f answer
    hole_answers h e (Ok n) a = atom_hole deep short table middle same f n h (subst (λ z. AddedPlace most (one_hole k.bytes used) z middle f n) e a)
    hole_answers h e (Err r) a = subst (λ z. Stops most size (Awaited.recipe ∷ []) d used (k ∷ s) z) (sym a.1) (hole_place_full h a.0)
