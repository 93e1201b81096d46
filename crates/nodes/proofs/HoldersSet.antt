-- Writing the holders of places in the words. Assumes nothing.
use mathlib.Core.Path.{fun_ext}
use Rattle.std.proofs.Common.{◌≡◌, ℕ, zero, suc, ◌+◌, ◌*◌, ◌<◌, ◌≢◌, cond, nat_lt, List, slice_index, set, Some, None, Option, refl, sym, ap, ◌∙◌, inl, inr, arith, get_or-set_same, get_or-set_other}
use Rattle.std.proofs.lemmas.Bool.{cases_eq}
use Rattle.std.specs.Option.{option_map, option_or}
use Rattle.forest.specs.Rows.{node_or_none}
use Rattle.recipe.specs.Common.{In, first_below}
use Rattle.recipe.specs.Links.{kind_of}
use Rattle.recipe.specs.Recipes.{inside, left, right}
use Rattle.recipe.specs.Tables.{Form, Holder, Table, form_by, holder, holder_below, holds_by, parts}
use Rattle.recipe.specs.Validity.{Ordered}
use Rattle.recipe.proofs.Firsts.{first_more, first_none, none_first}
use Rattle.recipe.proofs.Holders.{held_part, holder_tells, part_held, part_holder}
use Rattle.nodes.specs.HoldersWritten.{HolderSet, HolderWord, HoldersWritten, PartsHeld, PartsInside, SameForms, written_holder}
use Rattle.nodes.specs.Opposed.{HasRow}
use Rattle.nodes.specs.Records.{ChangesOnly, HasRows, written, written_form}
use Rattle.nodes.proofs.FirstRows.{form_written}

module _ (ws : List ℕ) (place v : ℕ) where
  -- the words with another holder of the place: every other word is as before
  word_kept : ChangesOnly (λ i. i ≡ 8 * place + 3) ws (set ws (8 * place + 3) v)
  word_kept i other = get_or-set_other ws (8 * place + 3) i v 0 other

  -- all forms are as before, and the other holders
  pub forms_kept : SameForms ws (set ws (8 * place + 3) v)
  forms_kept p = rw (word_kept (8 * p) (omega arith), word_kept (8 * p + 1) (omega arith), word_kept (8 * p + 2) (omega arith))

  pub holder_kept : (c : ℕ) → c ≢ place → written_holder (set ws (8 * place + 3) v) c ≡ written_holder ws c
  holder_kept c other = ap node_or_none (word_kept (8 * c + 3) (omega arith))

  pub holder_new : HasRow ws place → written_holder (set ws (8 * place + 3) v) place ≡ node_or_none v
  holder_new row = ap node_or_none (get_or-set_same ws (8 * place + 3) v 0 (omega arith))

pub holder_set : (ws : List ℕ) (place p : ℕ) → HasRow ws place → HolderSet p place ws (set ws (8 * place + 3) (p + 1))
holder_set ws place p row = record {
  here = holder_new ws place (p + 1) row ∙ ap node_or_none (let e : p + 1 ≡ suc p = omega arith in e);
  others = holder_kept ws place (p + 1);
  forms = forms_kept ws place (p + 1);
  only = word_kept ws place (p + 1);
}

-- a form of the kind of binders or of calls has these parts
bind_by : (a b k : ℕ) → kind_of (form_by {L = ℕ} (Some a) a b k) ≡ 4 → form_by {L = ℕ} (Some a) a b k ≡ Form.bind a b
bind_by a b zero e = absurd (omega arith)
bind_by a b (suc zero) e = absurd (omega arith)
bind_by a b (suc (suc zero)) e = absurd (omega arith)
bind_by a b (suc (suc (suc zero))) e = absurd (omega arith)
bind_by a b (suc (suc (suc (suc zero)))) e = refl
bind_by a b (suc (suc (suc (suc (suc zero))))) e = absurd (omega arith)
bind_by a b (suc (suc (suc (suc (suc (suc k)))))) e = absurd (omega arith)

call_by : (a b k : ℕ) → kind_of (form_by {L = ℕ} (Some a) a b k) ≡ 5 → form_by {L = ℕ} (Some a) a b k ≡ Form.call a b
call_by a b zero e = absurd (omega arith)
call_by a b (suc zero) e = absurd (omega arith)
call_by a b (suc (suc zero)) e = absurd (omega arith)
call_by a b (suc (suc (suc zero))) e = absurd (omega arith)
call_by a b (suc (suc (suc (suc zero)))) e = absurd (omega arith)
call_by a b (suc (suc (suc (suc (suc zero))))) e = refl
call_by a b (suc (suc (suc (suc (suc (suc k)))))) e = absurd (omega arith)

module _ (ws : List ℕ) (p : ℕ) where
  abbrev first : ℕ
  first = slice_index ws (8 * p + 1)

  abbrev second : ℕ
  second = slice_index ws (8 * p + 2)

  pub bind_form : kind_of (written_form ws p) ≡ 4 → written_form ws p ≡ Form.bind first second
  bind_form e = bind_by first second (slice_index ws (8 * p)) e

  pub call_form : kind_of (written_form ws p) ≡ 5 → written_form ws p ≡ Form.call first second
  call_form e = call_by first second (slice_index ws (8 * p)) e

  -- the parts of a place have rows
  pub bind_row : kind_of (written_form ws p) ≡ 4 → PartsInside ws p → HasRow ws (slice_index ws (8 * p + 2))
  bind_row e rows = rows (inside first second) (rw (bind_form e) (inl refl))

  pub left_row : kind_of (written_form ws p) ≡ 5 → PartsInside ws p → HasRow ws (slice_index ws (8 * p + 1))
  left_row e rows = rows (left first) (rw (call_form e) (inl refl))

  pub right_row : kind_of (written_form ws p) ≡ 5 → PartsInside ws p → HasRow ws (slice_index ws (8 * p + 2))
  right_row e rows = rows (right second) (rw (call_form e) (inr (inl refl)))

  -- the part of a binder is held
  pub bind_held : (new : List ℕ) → kind_of (written_form ws p) ≡ 4 → HolderSet p (slice_index ws (8 * p + 2)) ws new → PartsHeld p (parts (written_form ws p)) ws new
  bind_held new e done =
      rw (bind_form e)
      (record {
        held = λ x i. elim i [ inl is ↦ ap (λ y. written_holder new y.at) is ∙ done.here | inr off ↦ absurd off ];
        others = λ c other. done.others c (λ is. other (inside first second) (inl refl) (sym is));
        forms = done.forms;
        only = λ i other. done.only i (λ e. other (inside first second, inl refl, e));
      })

  -- the part of a call that is held first is held still
  left_held : (mid new : List ℕ) → HolderSet p first ws mid → HolderSet p second mid new → written_holder new first ≡ Some p
  left_held mid new one two = elim (cases_eq first second) [
    | inl is ↦ ap (written_holder new) is ∙ two.here
    | inr n ↦ two.others first n ∙ one.here
  ]

  -- both parts of a call are held
  pub call_held : (mid new : List ℕ) → kind_of (written_form ws p) ≡ 5 → HolderSet p (slice_index ws (8 * p + 1)) ws mid → HolderSet p (slice_index ws (8 * p + 2)) mid new → PartsHeld p (parts (written_form ws p)) ws new
  call_held mid new e one two =
      rw (call_form e)
      (record {
        held = λ x i. elim i [
          | inl is ↦ ap (λ y. written_holder new y.at) is ∙ left_held mid new one two
          | inr (inl is) ↦ ap (λ y. written_holder new y.at) is ∙ two.here
          | inr (inr off) ↦ absurd off
        ];
        others = λ c other. two.others c (λ is. other (right second) (inr (inl refl)) (sym is)) ∙ one.others c (λ is. other (left first) (inl refl) (sym is));
        forms = λ k. two.forms k ∙ one.forms k;
        only = λ i other. two.only i (λ e. other (right second, inr (inl refl), e)) ∙ one.only i (λ e. other (left first, inl refl, e));
      })

-- the words have the holder of each place among the places below p, and differ from the words `ws` in holders alone
pub record HoldersBelow (n : ℕ) (ws : List ℕ) (p : ℕ) (now : List ℕ) : Type 0 where
  pub held : (c : ℕ) → c < n → written_holder now c ≡ option_map (λ h. h.place) (holder_below (written n ws) p c)
  pub forms : SameForms ws now
  pub only : ChangesOnly (HolderWord n) ws now

module _ (n : ℕ) (ws : List ℕ) where
  abbrev T : Table ℕ
  T = written n ws

  pub holders_none : (now : List ℕ) → ((c : ℕ) → c < n → written_holder now c ≡ None) → SameForms ws now → ChangesOnly (HolderWord n) ws now → HoldersBelow n ws 0 now
  unfolding first_below
  holders_none now none forms only = record { held = none; forms = forms; only = only }

  -- the table of words with the same forms
  pub same_table : (now : List ℕ) → SameForms ws now → written n now ≡ written n ws
  same_table now forms =
      ap (λ (f : ℕ → Form ℕ). record { size = n; form = λ p. cond (nat_lt p n) (f p) Form.nil }) (fun_ext forms)

  module _ (ordered : Ordered (written n ws)) where
    -- parts have rows
    pub parts_inside : (now : List ℕ) (p : ℕ) → p < n → HasRows n now → SameForms ws now → PartsInside now p
    parts_inside now p low rows forms x i =
        let there : In x (parts (T.form p)) = rw (form_written n ws p low ∙ sym (forms p)) i in
        let less = ordered.rising p x there in
        omega arith

    module _ (p c : ℕ) (old new : List ℕ) (done : PartsHeld p (parts (T.form p)) old new) where
      -- what a place holds, after its parts are held, by whether a lower place or this one holds it
      held_by : (h : Option Holder) → holds_by p (parts (T.form p)) c ≡ h → written_holder old c ≡ None → written_holder new c ≡ option_map (λ g. g.place) h
      held_by None e was = done.others c (λ x i at. part_held p (parts (T.form p)) x i (ap (holds_by p (parts (T.form p))) at ∙ e)) ∙ was
      held_by (Some h) e was =
          let (x, i, at, by) = held_part p (parts (T.form p)) c h e in
          ap (written_holder new) (sym at) ∙ done.held x i ∙ ap Some (sym (ap (λ g. g.place) by))

      held_more : (o : Option Holder) → holder_below T p c ≡ o → written_holder old c ≡ option_map (λ g. g.place) o → written_holder new c ≡ option_map (λ g. g.place) (option_or o (holds_by p (parts (T.form p)) c))
      held_more None e was = held_by (holds_by p (parts (T.form p)) c) refl was
      held_more (Some h) e was =
          let (q, low, x, i, is, by) = holder_tells T p c h e in
          done.others c (λ y j at. let (one, same) = ordered.once q p x y i j (is ∙ sym at) in absurd (omega arith)) ∙ was

    -- one place more
    pub holders_more : (p : ℕ) (old new : List ℕ) → p < n → HoldersBelow n ws p old → PartsHeld p (parts (written_form old p)) old new → HoldersBelow n ws (p + 1) new
    holders_more p old new low below done =
        let form : T.form p ≡ written_form old p = form_written n ws p low ∙ sym (below.forms p) in
        let parts_done : PartsHeld p (parts (T.form p)) old new = rw form done in
        let next : p + 1 ≡ suc p = omega arith in
        record {
          held = λ c less.
              held_more p c old new parts_done (holder_below T p c) refl (below.held c less)
              ∙ ap (option_map (λ h. h.place)) (sym (ap (λ k. holder_below T k c) next ∙ first_more (λ q. holds_by q (parts (T.form q)) c) p));
          forms = λ k. done.forms k ∙ below.forms k;
          only = λ i other. parts_done.only i (λ (x, j, e). let less = ordered.rising p x j in other (x.at, omega arith, e)) ∙ below.only i other;
        }

    -- the holder among all places is that among the lower ones
    whole : (c : ℕ) (o : Option Holder) → c < n → holder_below T n c ≡ o → o ≡ holder T c
    whole c None low e = sym (none_first (λ q. holds_by q (parts (T.form q)) c) c (λ k h. first_none (λ q. holds_by q (parts (T.form q)) c) n e k (omega arith)))
    whole c (Some h) low e =
        let (q, less, x, i, is, by) = holder_tells T n c h e in
        ap Some by ∙ sym (part_holder T ordered q x i) ∙ ap (holder T) is

    pub holders_all : (now : List ℕ) → HoldersBelow n ws n now → HoldersWritten n now
    holders_all now below p low =
        below.held p low ∙ ap (option_map (λ h. h.place)) (whole p (holder_below T n p) low refl ∙ sym (ap (λ U. holder U p) (same_table now below.forms)))
