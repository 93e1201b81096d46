-- What a reading answers is right, and the only right answer. Assumes nothing.
use Rattle.std.proofs.Common.{◌≡◌, ℕ, ◌≤◌, ◌^◌, min, List, ◌++◌, length, drop, replicate, Some, Option, ap, sym, subst, ◌∙◌, arith}
use Rattle.std.proofs.lemmas.List.{length-map}
use Rattle.recipe.specs.declared.places.Place.{Place}
use Rattle.recipe.specs.declared.refusals.Refusal.{Refusal}
use Rattle.tokens.specs.Tokens.{Token}
use Rattle.notation.specs.declared.counts.Counts.{Counts}
use Rattle.notation.specs.Fitting.{Room, leaf_words}
use Rattle.notation.specs.Verdict.{Refused}
use Rattle.notation.specs.Tables.{row, padded, places_of, names_of, holes_of, leaves_of, numbers_of}
use Rattle.notation.specs.Reading.{Lists, room_of, ReadAs, Accepts, Refuses}
use Rattle.notation.specs.Progress.{Tabled, Halted, room_for}
use Rattle.notation.specs.Sweeping.{UnreadWord}
use Rattle.notation.specs.Answering.{Readable}
use Rattle.notation.proofs.Judged.{run_refuses, refused_once, refused_not_read}
use Rattle.notation.proofs.LeavesRead.{leaves_spelled}
use Rattle.notation.proofs.Spelled.{spelled_once}

module _ {L : Type 0} (reads : List ℕ → Option L) where
  -- the machine's refusal is the verdict
  pub halted_refused : (most : Room) (size : ℕ) (s : List Token) (why : Refusal) → Halted most size s why → Refused most size reads s why
  halted_refused most size s why h = run_refuses most size s reads why h.at

  -- so is the first leaf word that is not read
  pub unread_refused : (most : Room) (size : ℕ) (s : List Token) (places : List Place) (names holes : List ℕ) (counts : Counts) (start : ℕ) → Tabled most s places names holes counts → UnreadWord reads s start → Refused most size reads s (Refusal.UnreadLeaf start)
  unread_refused most size s places names holes counts start t u =
      subst
      (λ n. Refused most size reads s (Refusal.UnreadLeaf n))
      u.at
      (Refused.unread
      (record {
        before = u.before;
        after = u.after;
        split = u.split;
        trees = t.trees;
        spells = t.spells;
        fits = t.fits;
        leaf = u.leaf;
        unread = u.unread;
        first = u.first;
      }))

  as_long : (ws : List (List ℕ)) (ls : List L) → ReadAs reads ws ls → length ws ≡ length ls
  as_long ws ls h = sym (length-map ws reads) ∙ ap (λ q. length q) h ∙ length-map ls Some

  module _ (size : ℕ) (s : List Token) (old new : Lists L) where
    -- there are no more leaves than the list has room for
    pub leaves_fit : (places : List Place) (names holes : List ℕ) (counts : Counts) → (r : Readable reads (room_of old) s places names holes counts) → length r.read.leaves ≤ length old.leaves
    leaves_fit places names holes counts r =
        let few : length (leaf_words s) ≤ min (length old.leaves) (2 ^ 32) = r.tabled.fits.leaves in
        omega (arith, few, as_long (leaf_words s) r.read.leaves r.read.reads_as)

    -- an accepted text
    pub accepted : (counts : Counts) → (r : Readable reads (room_of old) s new.places new.names new.holes counts) → length new.places ≡ length old.places → length new.names ≡ length old.names → length new.holes ≡ length old.holes → new.leaves ≡ r.read.leaves ++ drop (length r.read.leaves) old.leaves → Accepts reads size s old new counts
    accepted counts r p n h l =
        let t = r.tabled in
        let words : leaf_words s ≡ leaves_of t.trees = leaves_spelled t.spells in
        let reads_as = subst (λ q. ReadAs reads q r.read.leaves) words r.read.reads_as in
        record {
          trees = t.trees;
          spells = t.spells;
          only = λ others sp. spelled_once sp t.spells;
          fits = t.fits;
          read = r.read.leaves;
          reads_as = reads_as;
          places = t.places_are ∙ ap (λ m. padded m (row 0 0 0) (places_of t.trees)) p;
          names = t.names_are ∙ ap (λ m. padded m 0 (numbers_of (names_of t.trees))) n;
          holes = t.holes_are ∙ ap (λ m. padded m 0 (numbers_of (holes_of t.trees))) h;
          leaves = l;
          place_count = t.place_count;
          name_count = t.name_count;
          hole_count = t.hole_count;
          leaf_count = t.leaf_count ∙ as_long (leaves_of t.trees) r.read.leaves reads_as;
          none = λ why refused. refused_not_read (room_of old) size s reads why refused t.trees r.read.leaves t.spells t.fits reads_as;
        }

    -- a refused one
    pub refused_text : (why : Refusal) → Refused (room_of old) size reads s why → new.places ≡ replicate (length old.places) (row 0 0 0) → new.names ≡ replicate (length old.names) 0 → new.holes ≡ replicate (length old.holes) 0 → new.leaves ≡ old.leaves → Refuses reads size s old new why
    refused_text why refused p n h l =
        record {
          refused = refused;
          only = λ other r. refused_once (room_of old) size s reads other why r refused;
          none = λ ts ls sp fits read. refused_not_read (room_of old) size s reads why refused ts ls sp fits read;
          places = p;
          names = n;
          holes = h;
          leaves = l;
        }

-- rooms of lists that are as long
pub same_room : (a b c l m n o k : ℕ) → a ≡ m → b ≡ n → c ≡ o → l ≡ k → room_for a b c l ≡ room_for m n o k
same_room a b c l m n o k e f g h = cc
