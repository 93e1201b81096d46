-- A numeral that is read byte by byte, as far as its bytes are digits. Assumes nothing.
use denote.Param.Members.{Mut}
use denote.Ref.{Bor}
use Rattle.std.proofs.Common.{◌≡◌, ℕ, ◌+◌, ◌*◌, ◌^◌, ◌<◌, ◌≤◌, true, false, cond, List, [], ◌∷◌, ◌++◌, length, map, Some, None, Option, sym, ◌∙◌, refl, subst, ap, Iter, arith}
use Rattle.std.proofs.lemmas.Bool.Decides.{nat_tests}
use Rattle.std.proofs.lemmas.Fn.{fronts, chained_keeps, serves_by}
use Rattle.std.proofs.lemmas.Int.Digits.{digits_value_push}
use Rattle.std.proofs.lemmas.Iterator.{YieldsList}
use Rattle.std.proofs.lemmas.Iterator.Consumers.{YieldsList-turn, YieldsList-end}
use Rattle.std.proofs.lemmas.List.{length-map, map_push}
use Rattle.std.proofs.lemmas.List.Folds.{list_all-append, list_all_at}
use Rattle.std.proofs.lemmas.Str.Parse.{digits_value_short}
use Rattle.std.specs.Char.{is_ascii_digit, digit_value}
use Rattle.std.specs.Fn.{Called, Takes}
use Rattle.std.specs.Iterator.{CallableAtEachTurn, YieldsThen}
use Rattle.std.specs.List.{FoldsTo, list_all}
use Rattle.std.specs.Option.{MatchOption}
use Rattle.std.specs.Str.Parse.{digits_value}
use Rattle.leaves.proofs.Digits.{own}

-- the number with one more digit after it
abbrev pub next : ℕ → ℕ → Option ℕ
next n b = cond (is_ascii_digit b) (Some (n * 10 + digit_value b)) None

-- the bytes so far are digits, and write n
record Written (bs : List ℕ) (n : ℕ) : Type 0 where
  pub all : list_all is_ascii_digit bs ≡ true
  pub is : n ≡ digits_value 10 bs

one_more : (bs : List ℕ) (b n m : ℕ) → Written bs n → Some m ≡ next n b → Written (bs ++ b ∷ []) m
one_more bs b n m w e =
    record { all = grind (arith, nat_tests, w, list_all-append); is = grind (arith, nat_tests, w, digits_value_push) }

module _ {F : Type 0} (g : Mut F (ℕ × (Bor ℕ × Unit {0})) (Option ℕ)) (gives : (f : F) (n : ℕ) (x : Bor ℕ) (r : Option ℕ) (h : F) → Called g f (n, (x, tt)) r h → r ≡ next n x.now) where
  Seen : List (Bor ℕ) → F × ℕ → Type 0
  Seen xs q = Written (map (λ x. x.now) xs) q.1

  Turn : F × ℕ → Bor ℕ → F × ℕ → Type 0
  Turn p x q = (v : Option ℕ) × Called g p.0 (p.1, (x, tt)) v q.0 × (v ≡ Some q.1)

  keeps : (xs : List (Bor ℕ)) (q : F × ℕ) (x : Bor ℕ) (v : F × ℕ) → Seen xs q → Turn q x v → Seen (xs ++ x ∷ []) v
  unfolding Seen Turn
  keeps xs q x v w t =
      subst (λ bs. Written bs v.1) (sym (map_push (λ x. x.now) xs x)) (one_more (map (λ x. x.now) xs) x.now q.1 v.1 w (sym t.2 ∙ gives q.0 q.1 x t.0 v.0 t.1))

  -- it may be called at each byte, since at most 17 digits stand before the last
  pub may_be_called : (takes : (f : F) (n : ℕ) (x : Bor ℕ) → n < 10 ^ 17 → Takes g f (n, (x, tt))) (s : Iter ℕ) (ds : List ℕ) (f : F) → YieldsList fronts (λ x. x.now) s ds → length ds ≤ 18
      → CallableAtEachTurn {P = F × ℕ} fronts (λ p x q. (v : Option ℕ) × Called g p.0 (p.1, (x, tt)) v q.0 × (v ≡ Some q.1)) (λ p x. Takes g p.0 (p.1, (x, tt))) s (f, 0)
  unfolding Seen Turn
  may_be_called takes s ds f from short =
      serves_by Turn Seen keeps fronts (λ p x. Takes g p.0 (p.1, (x, tt))) s (f, 0) (record { all = refl; is = refl }) (λ xs t q x u y e w.
      let turn = YieldsList-turn from xs t y (Some x) u x refl e in
      let fits = digits_value_short own (map (λ x. x.now) xs) 17 w.all (simp length-map (omega (arith, turn.0, short))) in
      takes q.0 q.1 x (omega (arith, fits, w.is)))

  -- what the calls gave is the number, where all bytes are digits
  pub number_read : {E : Type 0} (s u : Iter ℕ) (ds : List ℕ) (f : F) (r : Option ℕ) → YieldsList fronts (λ x. x.now) s ds
      → (xs : List (Bor ℕ)) × (o : Option (Bor ℕ)) × (h : F) × (n : ℕ) × YieldsThen fronts s xs o u × FoldsTo {P = F × ℕ} (λ p x q. (v : Option ℕ) × Called g p.0 (p.1, (x, tt)) v q.0 × (v ≡ Some q.1)) (f, 0) xs (h, n)
      × MatchOption o (r ≡ Some n) (λ x. (v : Option ℕ) × (k : F) × (e : E) × Called g h (n, (x, tt)) v k × (v ≡ None) × (r ≡ None))
      → r ≡ cond (list_all is_ascii_digit ds) (Some (digits_value 10 ds)) None
  unfolding Seen Turn
  number_read {E} s u ds f r from ran = ends ran.1 ran.4.2 ran.6
    where
      before : Written (map (λ x. x.now) ran.0) ran.3
      before = chained_keeps Turn Seen keeps ran.0 (f, 0) (ran.2, ran.3) (record { all = refl; is = refl }) ran.5

      ends : (o : Option (Bor ℕ)) → fronts ran.4.0 o u → MatchOption o (r ≡ Some ran.3) (λ x. (v : Option ℕ) × (k : F) × (e : E) × Called g ran.2 (ran.3, (x, tt)) v k × (v ≡ None) × (r ≡ None)) → r ≡ cond (list_all is_ascii_digit ds) (Some (digits_value 10 ds)) None
      ends None step m =
          let whole = (YieldsList-end from ran.0 ran.4.0 ran.4.1 None u refl step).0 in
          m ∙ subst (λ bs. Some ran.3 ≡ cond (list_all is_ascii_digit bs) (Some (digits_value 10 bs)) None) whole (grind (arith, nat_tests, before))
      ends (Some x) step m =
          let turn = YieldsList-turn from ran.0 ran.4.0 ran.4.1 (Some x) u x refl step in
          let no_digit : is_ascii_digit x.now ≡ false = grind (arith, nat_tests, gives ran.2 ran.3 x m.0 m.1 m.3, m.4) in
          let fails = list_all_at is_ascii_digit ds (length ran.0) x.now turn.0 (ap is_ascii_digit (sym turn.1) ∙ no_digit) in
          m.5 ∙ sym (ap (λ b. cond b (Some (digits_value 10 ds)) None) fails)
