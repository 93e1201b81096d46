-- The rows that a list adds. Assumes nothing.
use Rattle.std.proofs.Common.{◌≡◌, ℕ, suc, ◌+◌, ◌≤◌, ◌^◌, min, true, List, ◌∷◌, ◌++◌, length, slice_set, length-append, refl, ap, ap₂, sym, subst, ◌∙◌, arith}
use Rattle.tokens.specs.Tokens.{Token}
use Rattle.tokens.specs.declared.classes.Class.{Class}
use Rattle.recipe.specs.declared.places.Place.{Place}
use Rattle.notation.specs.declared.lent_lists.LentLists.{LentLists}
use Rattle.notation.specs.Fitting.{Room}
use Rattle.notation.specs.Reading.{room}
use Rattle.notation.specs.Grammar.{Tree, Spells}
use Rattle.notation.specs.Tables.{row, number, size}
use Rattle.notation.specs.Machine.{Used, one_place, one_name, within}
use Rattle.notation.specs.Threading.{used_by, rows, overwritten}
use Rattle.notation.specs.LentLists.{Stands}
use Rattle.notation.specs.Taking.{TookBinder, TookRecipe}
use Rattle.notation.proofs.Shorts.{rest_short}
use Rattle.notation.proofs.Threaded.{places_used, rows_long}
use Rattle.notation.proofs.Turning.{stands_within}
use Rattle.notation.proofs.Written.{overwritten_append, overwritten_before}
use Rattle.notation.proofs.ListTurns.{bind_front, call_front, last_taken, close_taken}

-- what is used is within the table
within_table : (most : Room) (used : Used) (f : LentLists) (n long : ℕ) → Stands most used f → most.places ≡ room long → used.places ≡ n → n ≤ long
within_table most used f n long stands e h =
    let few = stands.places_few in
    let r : most.places ≡ min long (2 ^ 32) = e in
    omega arith

-- the rows of a bind, the first one written last
bind_rows : (p : ℕ) (y : Place) (ys : List Place) (table first last : List Place) → p + suc (length ys) ≤ length table → first ≡ table → last ≡ overwritten (suc p) ys first → slice_set last p y ≡ overwritten p (y ∷ ys) table
bind_rows p y ys table first last h e f =
    ap (λ q. slice_set q p y) (f ∙ ap (λ q. overwritten (suc p) ys q) e) ∙ overwritten_before p y ys table h

-- the rows of a call, the first one written last
call_rows : (p m : ℕ) (y : Place) (ys zs : List Place) (table first next last : List Place) → p + suc (length ys + length zs) ≤ length table → m ≡ suc p + length ys → first ≡ table → next ≡ overwritten (suc p) ys first → last ≡ overwritten m zs next → slice_set last p y ≡ overwritten p (y ∷ (ys ++ zs)) table
call_rows p m y ys zs table first next last h g e f i =
    let both : last ≡ overwritten (suc p) (ys ++ zs) table =
    i
    ∙ ap₂ (λ n q. overwritten n zs q) g (f ∙ ap (λ q. overwritten (suc p) ys q) e)
    ∙ overwritten_append (suc p) ys zs table (omega (arith, h)) in
    ap (λ q. slice_set q p y) both ∙ overwritten_before p y (ys ++ zs) table (omega (arith, h, length-append ys zs))

module _ (most : Room) (bytes d e : ℕ) (used : Used) (deep : d ≤ 128) (deeper : e ≡ suc d) (fits : within most e (one_place used) ≡ true) (o : Token) (opens : o.class ≡ Class.Open) (table table0 : List Place) (same : table0 ≡ table) (table_room : most.places ≡ room (length table)) where
  pub bind_taken : (l q c : Token) (s0 s1 s2 s3 s4 r : List Token) (n inside place : ℕ) (y : Place) (f1 f2 f : LentLists) → l.class ≡ Class.Lambda → s0 ≡ l ∷ s1 → (B : TookBinder most bytes e (one_place used) s1 s2 table0 f1 n) → s2 ≡ q ∷ s3 → (R : TookRecipe most bytes e (one_name B.name.bytes (one_place used)) (q ∷ s3) s4 f1.places.now f2 inside) → c.class ≡ Class.Close → s4 ≡ c ∷ r → place ≡ used.places → y ≡ row 4 n inside → f.places.now ≡ slice_set f2.places.now place y → Stands most (used_by (one_name B.name.bytes (one_place used)) R.tree) f → TookRecipe most bytes d used (o ∷ s0) r table f place
  unfolding used_by rows
  bind_taken l q c s0 s1 s2 s3 s4 r n inside place y f1 f2 f lambda left0 B left2 R shuts left4 at is written stands =
      let w : List ℕ = B.name.bytes in
      let v : Used = one_name w (one_place used) in
      let whole : s0 ≡ l ∷ B.opening ∷ B.name ∷ B.shut ∷ q ∷ s3 = left0 ∙ ap (λ s. l ∷ s) (B.left ∙ ap (λ s. B.opening ∷ B.name ∷ B.shut ∷ s) left2) in
      let inner : Spells (q ∷ s3) R.tree (c ∷ r) = subst (λ s. Spells (q ∷ s3) R.tree s) left4 R.spells in
      let front = bind_front most bytes d used o opens e deeper fits l lambda s0 s1 left0 v s2 B.turns in
      let last = last_taken most bytes d e used v (o ∷ s0) s2 front q s3 left2 (used_by v R.tree) s4 R.turns in
      let long : length (rows v R.tree) ≡ size R.tree = rows_long R.tree v in
      let bound = within_table most (used_by v R.tree) f (suc used.places + size R.tree) (length table) stands table_room (places_used R.tree v) in
      record {
        tree = Tree.bind w R.tree;
        spells =
            subst
            (λ s. Spells (o ∷ s) (Tree.bind w R.tree) r)
            (sym whole)
            (Spells.bind opens lambda B.opens (record { class = B.names; bytes = refl }) B.shuts inner shuts);
        turns = close_taken most bytes d e used (used_by v R.tree) (o ∷ s0) s4 last c shuts r left4 deeper (stands_within most d _ f stands deep);
        number_is = at;
        written =
            written
            ∙ ap₂ (λ a b. slice_set f2.places.now a b) at (is ∙ ap₂ (λ a b. row 4 a b) B.number_is R.number_is)
            ∙ bind_rows used.places (row 4 (number used.names w) (suc used.places)) (rows v R.tree) table f1.places.now f2.places.now (omega (arith, long, bound)) (B.kept ∙ same) R.written;
        stands = stands;
        short = rest_short left4 R.short;
      }

  pub call_taken : (k q c : Token) (s0 s1 s2 s3 s4 r : List Token) (left right place : ℕ) (y : Place) (f1 f2 f : LentLists) → (k.class ≡ Class.Lambda → ⊥) → s0 ≡ k ∷ s1 → (L : TookRecipe most bytes e (one_place used) (k ∷ s1) s2 table0 f1 left) → s2 ≡ q ∷ s3 → (R : TookRecipe most bytes e (used_by (one_place used) L.tree) (q ∷ s3) s4 f1.places.now f2 right) → c.class ≡ Class.Close → s4 ≡ c ∷ r → place ≡ used.places → y ≡ row 5 left right → f.places.now ≡ slice_set f2.places.now place y → Stands most (used_by (used_by (one_place used) L.tree) R.tree) f → TookRecipe most bytes d used (o ∷ s0) r table f place
  unfolding used_by rows
  call_taken k q c s0 s1 s2 s3 s4 r left right place y f1 f2 f other left0 L left2 R shuts left4 at is written stands =
      let u : Used = one_place used in
      let v : Used = used_by u L.tree in
      let w : Used = used_by v R.tree in
      let first : Spells (k ∷ s1) L.tree (q ∷ s3) = subst (λ s. Spells (k ∷ s1) L.tree s) left2 L.spells in
      let second : Spells (q ∷ s3) R.tree (c ∷ r) = subst (λ s. Spells (q ∷ s3) R.tree s) left4 R.spells in
      let front = call_front most bytes d used o opens e deeper fits k other s0 s1 left0 v s2 L.turns in
      let last = last_taken most bytes d e used v (o ∷ s0) s2 front q s3 left2 w s4 R.turns in
      let long : length (rows u L.tree) ≡ size L.tree = rows_long L.tree u in
      let long2 : length (rows v R.tree) ≡ size R.tree = rows_long R.tree v in
      let middle : v.places ≡ suc used.places + size L.tree = places_used L.tree u in
      let bound = within_table most w f (suc used.places + size L.tree + size R.tree) (length table) stands table_room (places_used R.tree v ∙ ap (λ n. n + size R.tree) middle) in
      record {
        tree = Tree.call L.tree R.tree;
        spells = subst (λ s. Spells (o ∷ s) (Tree.call L.tree R.tree) r) (sym left0) (Spells.call opens first second shuts);
        turns = close_taken most bytes d e used w (o ∷ s0) s4 last c shuts r left4 deeper (stands_within most d _ f stands deep);
        number_is = at;
        written =
            written
            ∙ ap₂ (λ a b. slice_set f2.places.now a b) at (is ∙ ap₂ (λ a b. row 5 a b) L.number_is R.number_is)
            ∙ call_rows used.places v.places (row 5 (suc used.places) v.places) (rows u L.tree) (rows v R.tree) table table0 f1.places.now f2.places.now (omega (arith, long, long2, bound)) (middle ∙ ap (λ n. suc used.places + n) (sym long)) same L.written R.written;
        stands = stands;
        short = rest_short left4 R.short;
      }
