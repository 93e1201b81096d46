-- A text is read in one way. Assumes nothing.
use Rattle.std.proofs.Common.{◌≡◌, ℕ, List, [], ◌∷◌, map, Some, Option, Ok, Err, Result, sym, refl, ap, ◌∙◌, ap₂}
use Rattle.tokens.specs.Tokens.{Token}
use Rattle.recipe.specs.declared.refusals.Refusal.{Refusal}
use Rattle.notation.specs.declared.counts.Counts.{Counts}
use Rattle.notation.specs.Reading.{Lists, Accepts, Refuses, Reads}
use Rattle.notation.specs.Tables.{leaves_of}

-- four lists, and four counts, that are the same one by one
lists_same : {L : Type 0} (a b : Lists L) → b.places ≡ a.places → b.names ≡ a.names → b.holes ≡ a.holes → b.leaves ≡ a.leaves → b ≡ a
lists_same a b p n h l =
    ap₂ (λ x y. record { places = x; names = y; holes = b.holes; leaves = b.leaves }) p n ∙ ap₂ (λ x y. record { places = a.places; names = a.names; holes = x; leaves = y }) h l

filled_same : (f g : Counts) → g.places ≡ f.places → g.names ≡ f.names → g.holes ≡ f.holes → g.leaves ≡ f.leaves → g ≡ f
filled_same f g p n h l =
    ap₂ (λ x y. record { places = x; names = y; holes = g.holes; leaves = g.leaves }) p n ∙ ap₂ (λ x y. record { places = f.places; names = f.names; holes = x; leaves = y }) h l

module _ {L : Type 0} (reads : List ℕ → Option L) (size : ℕ) (s : List Token) (old : Lists L) where
  -- the lists and the answer are these
  pub record Same (new : Lists L) (r : Result Counts Refusal) (other : Lists L) (q : Result Counts Refusal) : Type 0 where
    pub lists : other ≡ new
    pub answer : q ≡ r

  same_leaves : (xs ys : List L) → map Some xs ≡ map Some ys → ys ≡ xs
  same_leaves [] [] e = refl
  same_leaves [] (y ∷ ys) e = cc
  same_leaves (x ∷ xs) [] e = cc
  same_leaves (x ∷ xs) (y ∷ ys) e =
      let head : y ≡ x = cc in
      let tail : map Some xs ≡ map Some ys = cc in
      ap₂ (λ z zs. z ∷ zs) head (same_leaves xs ys tail)

  -- the recipes of a text are the only ones, so all that is made of them is the same
  accepted : (new other : Lists L) (f g : Counts) → Accepts reads size s old new f → Accepts reads size s old other g → Same new (Ok f) other (Ok g)
  accepted new other f g a b =
      let trees = a.only b.trees b.spells in
      let read = same_leaves a.read b.read (sym a.reads_as ∙ ap (λ ts. map reads (leaves_of ts)) (sym trees) ∙ b.reads_as) in
      record {
        lists = lists_same new other (cc (a.places, b.places)) (cc (a.names, b.names)) (cc (a.holes, b.holes)) (cc (a.leaves, b.leaves));
        answer = ap Ok (filled_same f g (cc (a.place_count, b.place_count)) (cc (a.name_count, b.name_count)) (cc (a.hole_count, b.hole_count)) (cc (a.leaf_count, b.leaf_count)));
      }

  refused : (new other : Lists L) (r q : Refusal) → Refuses reads size s old new r → Refuses reads size s old other q → Same new (Err r) other (Err q)
  refused new other r q a b =
      record {
        lists = lists_same new other (cc (a.places, b.places)) (cc (a.names, b.names)) (cc (a.holes, b.holes)) (cc (a.leaves, b.leaves));
        answer = ap Err (a.only q b.refused);
      }

  pub same : (new other : Lists L) (r q : Result Counts Refusal) → Reads reads size s old new r → Reads reads size s old other q → Same new r other q
  same new other (Ok f) (Ok g) a b = accepted new other f g a b
  same new other (Ok f) (Err q) a b = absurd (b.none a.trees a.read a.spells a.fits a.reads_as)
  same new other (Err r) (Ok g) a b = absurd (a.none b.trees b.read b.spells b.fits b.reads_as)
  same new other (Err r) (Err q) a b = refused new other r q a b
