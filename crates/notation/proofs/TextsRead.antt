-- The filled texts at the places of recipes are the recipes. Assumes nothing.
use Rattle.std.proofs.Common.{◌≡◌, ℕ, zero, suc, ◌+◌, List, [], ◌∷◌, ◌++◌, length, drop, map, slice_index_or, Some, None, Option, refl, ap, ap₂, sym, subst, ◌∙◌, suc-ne-zero, zero-add, arith}
use Rattle.std.proofs.lemmas.Option.{none-some, slice_get_past}
use Rattle.std.specs.List.{slice_get}
use Rattle.recipe.specs.declared.places.Place.{Place}
use Rattle.recipe.specs.Fillings.{Filling, filled, layer}
use Rattle.recipe.specs.Recipes.{Recipe}
use Rattle.recipe.specs.Tables.{Table, form_of, form_at, leaf_form, table_of}
use Rattle.recipe.proofs.Filled.{Rising, filled_layer}
use Rattle.notation.specs.Grammar.{Tree}
use Rattle.notation.specs.Meaning.{leaf_read, recipe_of, roots_from, roots_of}
use Rattle.notation.specs.Reading.{ReadAs}
use Rattle.notation.specs.Tables.{row, number, size, leaves, rows_from, all_rows_from, of_each, names_of, holes_of, leaves_of, places_of}
use Rattle.notation.proofs.PartsRead.{held, rising_all}
use Rattle.notation.proofs.Placed.{rows_from_long}

module _ {L : Type 0} (T : Table L) (ls : List L) where
  -- the forms from the place p on are those of the records
  abbrev Laid : ℕ → List Place → Type 0
  Laid p [] = Unit {0}
  Laid p (r ∷ rs) = (T.form p ≡ form_of ls r) × Laid (suc p) rs

  -- records, and then others
  laid_append : (rs ss : List Place) (p m : ℕ) → m ≡ p + length rs → Laid p (rs ++ ss) → Laid p rs × Laid m ss
  laid_append [] ss p m is laid = (tt, subst (λ n. Laid n ss) (omega (arith, is)) laid)
  laid_append (r ∷ rs) ss p m is laid =
      let rest = laid_append rs ss (suc p) m (omega (arith, is)) laid.1 in ((laid.0, rest.0), rest.1)

  -- records that are read place by place
  laid_at : (rs : List Place) (p : ℕ) → ((q n : ℕ) → n ≡ p + q → T.form n ≡ form_at ls (slice_get rs q)) → Laid p rs
  laid_at [] p at = tt
  laid_at (r ∷ rs) p at = (at 0 p (omega arith), laid_at rs (suc p) (λ q n e. at (suc q) n (omega (arith, e))))

module _ {L : Type 0} (reads : List ℕ → Option L) (ls : List L) where
  -- the words are read as the leaves from the leaf l on
  abbrev LeavesAt : ℕ → List (List ℕ) → Type 0
  LeavesAt l [] = Unit {0}
  LeavesAt l (w ∷ ws) = (slice_get ls l ≡ reads w) × LeavesAt (suc l) ws

  -- words, and then others
  leaves_append : (vs ws : List (List ℕ)) (l : ℕ) → LeavesAt l (vs ++ ws) → LeavesAt l vs × LeavesAt (l + length vs) ws
  leaves_append [] ws l at = (tt, subst (λ n. LeavesAt n ws) (add_none l) at)
    where
      add_none : (a : ℕ) → a ≡ a + 0
      add_none a = omega arith
  leaves_append (v ∷ vs) ws l at =
      let rest = leaves_append vs ws (suc l) at.1 in
      ((at.0, rest.0), subst (λ n. LeavesAt n ws) (add_next l (length vs)) rest.1)
    where
      add_next : (a n : ℕ) → suc a + n ≡ a + suc n
      add_next a n = omega arith

  -- words that are read one by one
  leaves_at : (ws : List (List ℕ)) (xs : List L) (l : ℕ) → ReadAs reads ws xs → ((q n : ℕ) (x : L) → n ≡ l + q → slice_get xs q ≡ Some x → slice_get ls n ≡ Some x) → LeavesAt l ws
  leaves_at [] xs l h at = tt
  leaves_at (w ∷ ws) [] l h at = absurd (suc-ne-zero (length (map reads ws)) (ap (λ q. length q) h))
  leaves_at (w ∷ ws) (x ∷ xs) l h at = (
    at 0 l x (omega arith) refl ∙ sym (ap (λ q. slice_index_or q 0 None) h),
    leaves_at ws xs (suc l) (ap (λ q. drop 1 q) h) (λ q n y e. at (suc q) n y (omega (arith, e))),
  )

-- a leaf stays where it is, whatever follows
front_at : {L : Type 0} (xs more : List L) (q : ℕ) (x : L) → slice_get xs q ≡ Some x → slice_get (xs ++ more) q ≡ Some x
front_at [] more q x e = absurd (none-some x e)
front_at (y ∷ xs) more zero x e = e
front_at (y ∷ xs) more (suc q) x e = front_at xs more q x e

-- the recipe of a leaf
leaf_layer : {L : Type 0} (θ : Filling L) (f : ℕ → Recipe L) (o : Option L) → layer θ f (leaf_form o) ≡ leaf_read o
leaf_layer θ f None = refl
leaf_layer θ f (Some l) = refl

module _ {L : Type 0} (T : Table L) (ls : List L) (θ : Filling L) (layers : (p : ℕ) → filled T θ p ≡ layer θ (filled T θ) (T.form p)) (reads : List ℕ → Option L) (text : List Tree) where
  -- the names and the holes of the text
  abbrev ns : List (List ℕ)
  ns = names_of text

  abbrev hs : List (List ℕ)
  hs = holes_of text

  -- the filled text where a record stands
  text_at : (p : ℕ) (r : Place) → T.form p ≡ form_of ls r → filled T θ p ≡ layer θ (filled T θ) (form_of ls r)
  text_at p r e = layers p ∙ ap (layer θ (filled T θ)) e

  -- that of a recipe
  text_read : (t : Tree) (p l : ℕ) → Laid T ls p (rows_from ns hs p l t) → LeavesAt reads ls l (leaves t) → filled T θ p ≡ recipe_of reads text θ t
  unfolding rows_from leaves recipe_of
  text_read Tree.nil p l laid at = text_at p (row 0 0 0) laid.0
  text_read (Tree.leaf w) p l laid at = text_at p (row 1 l 0) laid.0 ∙ leaf_layer θ (filled T θ) (slice_get ls l) ∙ ap leaf_read at.0
  text_read (Tree.name w) p l laid at = text_at p (row 2 (number ns w) 0) laid.0
  text_read (Tree.hole w) p l laid at = text_at p (row 3 (number hs w) 0) laid.0
  text_read (Tree.bind w t) p l laid at = text_at p (row 4 (number ns w) (suc p)) laid.0 ∙ ap (Recipe.bind (number ns w)) (text_read t (suc p) l laid.1 at)
  text_read (Tree.call t u) p l laid at =
      let m : ℕ = suc p + size t in
      let k : ℕ = l + length (leaves t) in
      let rs : List Place = rows_from ns hs (suc p) l t in
      let is : m ≡ suc p + length rs = ap (λ n. suc p + n) (sym (rows_from_long ns hs t (suc p) l)) in
      let both = laid_append T ls rs (rows_from ns hs m k u) (suc p) m is laid.1 in
      let words = leaves_append reads ls (leaves t) (leaves u) l at in
      text_at p (row 5 (suc p) m) laid.0 ∙ ap₂ (λ x y. Recipe.call x y) (text_read t (suc p) l both.0 words.0) (text_read u m k both.1 words.1)

  -- those of recipes
  texts_from : (ts : List Tree) (p l : ℕ) → Laid T ls p (all_rows_from ns hs p l ts) → LeavesAt reads ls l (of_each leaves ts) → map (filled T θ) (roots_from p ts) ≡ map (recipe_of reads text θ) ts
  unfolding all_rows_from of_each roots_from
  texts_from [] p l laid at = refl
  texts_from (t ∷ ts) p l laid at =
      let m : ℕ = p + size t in
      let k : ℕ = l + length (leaves t) in
      let rs : List Place = rows_from ns hs p l t in
      let is : m ≡ p + length rs = ap (λ n. p + n) (sym (rows_from_long ns hs t p l)) in
      let both = laid_append T ls rs (all_rows_from ns hs m k ts) p m is laid in
      let words = leaves_append reads ls (leaves t) (of_each leaves ts) l at in
      ap₂ (λ x xs. x ∷ xs) (text_read t p l both.0 words.0) (texts_from ts m k both.1 words.1)

-- parts are higher places of a table of recipes, however large it is
rising_read : {L : Type 0} (ts : List Tree) (ls : List L) → Rising (table_of (places_of ts) ls)
rising_read ts ls = record {
  up = λ p x i. let u = (rising_all (names_of ts) (holes_of ts) ts 0 0).up p x (held ts ls p x i) in (u.0, omega (arith, u.1));
  past = λ p h. ap (form_at ls) (slice_get_past (places_of ts) p h);
}

-- the filled texts at the places of recipes
pub texts_read : {L : Type 0} (reads : List ℕ → Option L) (ts : List Tree) (ls more : List L) → ReadAs reads (leaves_of ts) ls → (θ : Filling L) → map (filled (table_of (places_of ts) (ls ++ more)) θ) (roots_of ts) ≡ map (recipe_of reads ts θ) ts
texts_read reads ts ls more h θ =
    let all = ls ++ more in
    let T = table_of (places_of ts) all in
    texts_from T all θ (filled_layer T θ (rising_read ts all)) reads ts ts 0 0
    (laid_at T all (places_of ts) 0 (λ q n e. ap (λ i. form_at all (slice_get (places_of ts) i)) (e ∙ zero-add q)))
    (leaves_at reads all (leaves_of ts) ls 0 h (λ q n x e at. ap (λ i. slice_get all i) (e ∙ zero-add q) ∙ front_at ls more q x at))
