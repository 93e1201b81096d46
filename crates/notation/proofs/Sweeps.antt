-- Passes over the leaf words of a text, word by word. Assumes nothing.
use Rattle.std.proofs.Common.{◌≡◌, ℕ, suc, ◌+◌, ◌≤◌, ◌<◌, false, cond, List, [], ◌∷◌, ◌++◌, length, drop, map, set, get_or, Some, None, Option, slice_index_or, suc-ne-zero, refl, ap, ap₂, sym, subst, ◌∙◌, append_assoc, append-nil, length-append, arith}
use Rattle.std.proofs.Math.Seq.{drop-cons, set-append_seam}
use Rattle.tokens.specs.Tokens.{Token}
use Rattle.tokens.specs.Pieces.{token_of}
use Rattle.tokens.specs.declared.classes.Class.{Class}
use Rattle.tokens.specs.declared.words.Piece.{Piece}
use Rattle.notation.specs.Fitting.{is_leaf, leaf_words}
use Rattle.notation.specs.Reading.{ReadAs}
use Rattle.notation.specs.Sweeping.{Skipped, NextLeaf, Swept, AllRead, UnreadWord, Overwriting}
use Rattle.notation.proofs.LeavesRead.{words_one, read_append, read_each}

leaf_words_append : (u v : List Token) → leaf_words (u ++ v) ≡ leaf_words u ++ leaf_words v
leaf_words_append [] v = refl
leaf_words_append (k ∷ u) v =
    words_one is_leaf k (u ++ v) k.class k.bytes refl refl
    ∙ ap (λ q. cond (is_leaf k.class) (k.bytes ∷ []) [] ++ q) (leaf_words_append u v)
    ∙ sym (append_assoc (cond (is_leaf k.class) (k.bytes ∷ []) []) (leaf_words u) (leaf_words v))
    ∙ ap (λ q. q ++ leaf_words v) (sym (words_one is_leaf k u k.class k.bytes refl refl))

-- the words of a leaf token and what follows it
leaf_first : (k : Token) (s : List Token) → k.class ≡ Class.Leaf → leaf_words (k ∷ s) ≡ k.bytes ∷ leaf_words s
leaf_first k s h = words_one is_leaf k s Class.Leaf k.bytes h refl

no_leaf_class : (c : Class) → (c ≡ Class.Leaf → ⊥) → is_leaf c ≡ false
no_leaf_class Class.Open n = refl
no_leaf_class Class.Close n = refl
no_leaf_class Class.Nil n = refl
no_leaf_class Class.Lambda n = refl
no_leaf_class Class.Name n = refl
no_leaf_class Class.Hole n = refl
no_leaf_class Class.Leaf n = absurd (n refl)
no_leaf_class Class.Unknown n = refl

no_leaf : (k : Token) → (k.class ≡ Class.Leaf → ⊥) → leaf_words (k ∷ []) ≡ []
no_leaf k n = words_one is_leaf k [] k.class k.bytes refl refl ∙ ap (λ b. cond b (k.bytes ∷ []) [] ++ []) (no_leaf_class k.class n)

module _ (s : List Token) where
  -- nothing is skipped
  pub skipped_none : Skipped s s
  skipped_none = record { skipped = []; split = refl; none = refl }

  -- one token more is
  pub skipped_more : (left r : List Token) (k : Token) → Skipped s left → left ≡ k ∷ r → (k.class ≡ Class.Leaf → ⊥) → Skipped s r
  skipped_more left r k p e n =
      record {
        skipped = p.skipped ++ k ∷ [];
        split = p.split ∙ ap (λ q. p.skipped ++ q) e ∙ sym (append_assoc p.skipped (k ∷ []) r);
        none = leaf_words_append p.skipped (k ∷ []) ∙ ap₂ (λ a b. a ++ b) p.none (no_leaf k n);
      }

  -- all are
  pub skipped_all : (left : List Token) → Skipped s left → left ≡ [] → leaf_words s ≡ []
  skipped_all left p e = ap leaf_words (p.split ∙ ap (λ q. p.skipped ++ q) e ∙ append-nil p.skipped) ∙ p.none

  -- the leaf words are those after what is skipped
  words_after : (left : List Token) → Skipped s left → leaf_words s ≡ leaf_words left
  words_after left p = ap leaf_words p.split ∙ leaf_words_append p.skipped left ∙ ap (λ q. q ++ leaf_words left) p.none

-- the first leaf word and those after it
pub next_words : (text : List ℕ) (s r : List Token) (piece : Piece) → NextLeaf text s r piece → leaf_words s ≡ (token_of text piece).bytes ∷ leaf_words r
next_words text s r piece n = words_after s (token_of text piece ∷ r) n.before ∙ leaf_first (token_of text piece) r n.leaf

module _ {L : Type 0} (reads : List ℕ → Option L) where
  module _ (s : List Token) where
    -- before the first token
    pub swept_none : Swept reads s s
    swept_none = record { before = []; split = refl; leaves = []; reads_as = refl }

    -- the end
    pub swept_all : (left : List Token) → Swept reads s left → leaf_words left ≡ [] → AllRead reads s
    swept_all left p e =
        record {
          leaves = p.leaves;
          reads_as =
              subst
              (λ q. ReadAs reads q p.leaves)
              (sym (ap leaf_words p.split ∙ leaf_words_append p.before left ∙ ap (λ q. leaf_words p.before ++ q) e ∙ append-nil (leaf_words p.before)))
              p.reads_as;
        }

    module _ (text : List ℕ) (left r : List Token) (piece : Piece) (p : Swept reads s left) (n : NextLeaf text left r piece) where
      sweep_split : s ≡ (p.before ++ n.before.skipped) ++ token_of text piece ∷ r
      sweep_split =
          p.split ∙ ap (λ q. p.before ++ q) n.before.split ∙ sym (append_assoc p.before n.before.skipped (token_of text piece ∷ r))

      sweep_words : leaf_words (p.before ++ n.before.skipped) ≡ leaf_words p.before
      sweep_words =
          leaf_words_append p.before n.before.skipped ∙ ap (λ q. leaf_words p.before ++ q) n.before.none ∙ append-nil (leaf_words p.before)

      sweep_reads : ReadAs reads (leaf_words (p.before ++ n.before.skipped)) p.leaves
      sweep_reads = subst (λ q. ReadAs reads q p.leaves) (sym sweep_words) p.reads_as

      -- a leaf word that is read
      pub swept_more : (x : L) → reads (token_of text piece).bytes ≡ Some x → Swept reads s r
      swept_more x e =
          let k : Token = token_of text piece in
          let u : List Token = p.before ++ n.before.skipped in
          record {
            before = u ++ k ∷ [];
            split = sweep_split ∙ sym (append_assoc u (k ∷ []) r);
            leaves = p.leaves ++ x ∷ [];
            reads_as =
                subst
                (λ q. ReadAs reads q (p.leaves ++ x ∷ []))
                (sym (leaf_words_append u (k ∷ []) ∙ ap (λ q. leaf_words u ++ q) (leaf_first k [] n.leaf)))
                (read_append reads (leaf_words u) (k.bytes ∷ []) p.leaves (x ∷ []) sweep_reads (ap (λ o. o ∷ []) e));
          }

      -- one that is not
      pub swept_unread : reads (token_of text piece).bytes ≡ None → UnreadWord reads s piece.start
      swept_unread e =
          record {
            token = token_of text piece;
            at = refl;
            before = p.before ++ n.before.skipped;
            after = r;
            split = sweep_split;
            leaf = n.leaf;
            unread = e;
            first = λ j i leaf. read_each reads (p.before ++ n.before.skipped) p.leaves sweep_reads j i leaf;
          }

  -- what is read of a first word
  first_read : (w : List ℕ) (ws : List (List ℕ)) (ls : List L) → ReadAs reads (w ∷ ws) ls → (x : L) × (m : List L) × (ls ≡ x ∷ m) × (reads w ≡ Some x) × ReadAs reads ws m
  first_read w ws [] h = absurd (suc-ne-zero (length (map reads ws)) (ap (λ q. length q) h))
  first_read w ws (x ∷ m) h = (x, m, refl, ap (λ q. slice_index_or q 0 None) h, ap (λ q. drop 1 q) h)

  none_read : (ls : List L) → ReadAs reads [] ls → ls ≡ []
  none_read [] h = refl
  none_read (x ∷ m) h = absurd (suc-ne-zero (length (map Some m)) (sym (ap (λ q. length q) h)))

  module _ (ls : List L) (s : List Token) (old : List L) where
    -- nothing is written
    pub overwriting_none : ReadAs reads (leaf_words s) ls → Overwriting reads ls s old old 0
    overwriting_none h = record { front = []; rest = ls; parts = refl; long = refl; written = refl; reads_as = h }

  module _ (ls : List L) (left : List Token) (old now : List L) (i : ℕ) (p : Overwriting reads ls left old now i) where
    -- no leaf word is left
    pub overwriting_all : leaf_words left ≡ [] → now ≡ ls ++ drop (length ls) old
    overwriting_all e =
        let none = none_read p.rest (subst (λ q. ReadAs reads q p.rest) e p.reads_as) in
        let all : ls ≡ p.front = p.parts ∙ ap (λ q. p.front ++ q) none ∙ append-nil p.front in
        p.written ∙ ap₂ (λ a n. a ++ drop n old) (sym all) (sym p.long ∙ sym (ap (λ q. length q) all))

    -- the list is full
    pub overwriting_full : i ≡ length old → length ls ≤ length old → now ≡ ls ++ drop (length ls) old
    overwriting_full e h =
        let none = empty p.rest (omega (arith, e, h, p.long, ap (λ q. length q) p.parts, length-append p.front p.rest)) in
        let all : ls ≡ p.front = p.parts ∙ ap (λ q. p.front ++ q) none ∙ append-nil p.front in
        p.written ∙ ap₂ (λ a n. a ++ drop n old) (sym all) (sym p.long ∙ sym (ap (λ q. length q) all))
      where
        empty : (xs : List L) → length xs ≡ 0 → xs ≡ []
        empty [] h = refl
        empty (x ∷ xs) h = absurd (suc-ne-zero (length xs) h)

    module _ (text : List ℕ) (r : List Token) (piece : Piece) (n : NextLeaf text left r piece) where
      next_read : ReadAs reads ((token_of text piece).bytes ∷ leaf_words r) p.rest
      next_read = subst (λ q. ReadAs reads q p.rest) (next_words text left r piece n) p.reads_as

      -- a word that is not read spoils the whole
      pub overwriting_unread : reads (token_of text piece).bytes ≡ None → ⊥
      overwriting_unread e =
          let (x, m, is, read, more) = first_read (token_of text piece).bytes (leaf_words r) p.rest next_read in
          unlike (sym e ∙ read)
        where
          unlike : {x : L} → None ≡ Some x → ⊥
          unlike h = cc

      -- one that is read is written
      pub overwriting_more : (y : L) → reads (token_of text piece).bytes ≡ Some y → i < length old → Overwriting reads ls r old (set now i y) (i + 1)
      overwriting_more y e h =
          let (x, m, is, read, more) = first_read (token_of text piece).bytes (leaf_words r) p.rest next_read in
          let same : x ≡ y = alike (sym read ∙ e) in
          record {
            front = p.front ++ y ∷ [];
            rest = m;
            parts = p.parts ∙ ap (λ q. p.front ++ q) (is ∙ ap (λ z. z ∷ m) same) ∙ sym (append_assoc p.front (y ∷ []) m);
            long = length-append p.front (y ∷ []) ∙ ap (λ k. k + 1) p.long;
            written =
                ap (λ q. set q i y) (p.written ∙ ap (λ q. p.front ++ q) (drop-cons old i y h))
                ∙ ap (λ k. set (p.front ++ (get_or old i y ∷ drop (suc i) old)) k y) (sym p.long)
                ∙ set-append_seam p.front (get_or old i y) (drop (suc i) old) y
                ∙ sym (append_assoc p.front (y ∷ []) (drop (suc i) old))
                ∙ ap (λ k. (p.front ++ y ∷ []) ++ drop k old) (one_more i);
            reads_as = more;
          }
        where
          one_more : (k : ℕ) → suc k ≡ k + 1
          one_more k = omega arith

          alike : {x z : L} → Some x ≡ Some z → x ≡ z
          alike h = cc
