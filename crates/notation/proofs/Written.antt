-- Lists that are written from the front on, and zeros after that. Assumes nothing.
use Rattle.std.proofs.Common.{◌≡◌, ℕ, suc, ◌+◌, ◌-◌, ◌≤◌, ◌<◌, List, [], ◌∷◌, ◌++◌, length, take, drop, set, replicate, slice_set, refl, ap, ap₂, sym, subst, ◌∙◌, append_assoc, length-append, length-drop, length-take-le, take-take, drop-drop, take-append-drop, arith}
use Rattle.std.proofs.Math.Seq.{drop-append-add, drop-append_seam, take-append_seam}
use Rattle.std.proofs.lemmas.List.{drop-replicate, drop-set, length-replicate, take-append-le, take-set}
use Rattle.notation.specs.Tables.{padded}
use Rattle.notation.specs.Threading.{overwritten}

module _ {A : Type 0} where
  -- a list in two parts is written from the second on
  written_at : (xs rest ys : List A) (p : ℕ) → p ≡ length xs → overwritten p ys (xs ++ rest) ≡ xs ++ (ys ++ drop (length ys) rest)
  written_at xs rest ys p e =
      ap (λ q. overwritten q ys (xs ++ rest)) e
      ∙ ap₂ (λ a b. a ++ (ys ++ b)) (take-append_seam xs rest) (drop-append-add xs rest (length ys))

  pub overwritten_long : (p : ℕ) (ys xs : List A) → p + length ys ≤ length xs → length (overwritten p ys xs) ≡ length xs
  overwritten_long p ys xs h =
      length-append (take p xs) (ys ++ drop (p + length ys) xs)
      ∙ ap₂ (λ a b. a + b) (length-take-le p xs (omega (arith, h))) (length-append ys (drop (p + length ys) xs) ∙ ap (λ n. length ys + n) (length-drop (p + length ys) xs))
      ∙ omega (arith, h)

  pub overwritten_append : (p : ℕ) (ys zs xs : List A) → p + length ys + length zs ≤ length xs → overwritten (p + length ys) zs (overwritten p ys xs) ≡ overwritten p (ys ++ zs) xs
  overwritten_append p ys zs xs h =
      ap (λ w. overwritten (p + length ys) zs w) (sym (append_assoc (take p xs) ys (drop (p + length ys) xs)))
      ∙ written_at (take p xs ++ ys) (drop (p + length ys) xs) zs (p + length ys) (sym (length-append (take p xs) ys ∙ ap (λ n. n + length ys) (length-take-le p xs (omega (arith, h)))))
      ∙ append_assoc (take p xs) ys (zs ++ drop (length zs) (drop (p + length ys) xs))
      ∙ ap (λ q. take p xs ++ q) (sym (append_assoc ys zs (drop (length zs) (drop (p + length ys) xs))) ∙ ap (λ q. (ys ++ zs) ++ q) (drop-drop (length zs) (p + length ys) xs ∙ ap (λ n. drop n xs) (index p (length ys) (length zs) ∙ ap (λ n. p + n) (sym (length-append ys zs)))))
    where
      index : (a b c : ℕ) → a + b + c ≡ a + (b + c)
      index a b c = omega arith

  -- one entry
  pub overwritten_one : (p : ℕ) (y : A) (xs : List A) → p < length xs → overwritten p (y ∷ []) xs ≡ slice_set xs p y
  overwritten_one p y xs h =
      sym (ap₂ (λ a b. a ++ b) (take-set xs p y) (drop-set xs p y h)) ∙ take-append-drop p (set xs p y)

  -- an entry that is written after those that follow it
  pub overwritten_before : (p : ℕ) (y : A) (ys xs : List A) → p + suc (length ys) ≤ length xs → slice_set (overwritten (suc p) ys xs) p y ≡ overwritten p (y ∷ ys) xs
  overwritten_before p y ys xs h =
      let rest : List A = ys ++ drop (suc p + length ys) xs in
      let front = length-take-le (suc p) xs (omega (arith, h)) in
      sym (overwritten_one p y (overwritten (suc p) ys xs) (subst (λ n. p < n) (sym (overwritten_long (suc p) ys xs (omega (arith, h)))) (omega (arith, h))))
      ∙ ap₂
      (λ a b. a ++ (y ∷ b))
      (take-append-le p (take (suc p) xs) rest (subst (λ n. p ≤ n) (sym front) (omega arith)) ∙ take-take p (suc p) xs (omega arith))
      (ap (λ n. drop n (take (suc p) xs ++ rest)) (add_one p ∙ sym front) ∙ drop-append_seam (take (suc p) xs) rest)
      ∙ ap (λ n. take p xs ++ (y ∷ (ys ++ drop n xs))) (index p (length ys))
    where
      add_one : (a : ℕ) → a + 1 ≡ suc a
      add_one a = omega arith

      index : (a b : ℕ) → suc a + b ≡ a + suc b
      index a b = omega arith

  -- a list that begins with zeros after its end
  pub padded_none : (n : ℕ) (z : A) → padded n z [] ≡ replicate n z
  padded_none n z = ap (λ m. replicate m z) (less n)
    where
      less : (a : ℕ) → a - 0 ≡ a
      less a = omega arith

  pub padded_more : (n : ℕ) (z : A) (xs ys : List A) → length xs + length ys ≤ n → overwritten (length xs) ys (padded n z xs) ≡ padded n z (xs ++ ys)
  padded_more n z xs ys h =
      written_at xs (replicate (n - length xs) z) ys (length xs) refl
      ∙ sym (append_assoc xs ys (drop (length ys) (replicate (n - length xs) z)))
      ∙ ap (λ q. (xs ++ ys) ++ q) (drop-replicate (length ys) (n - length xs) z ∙ ap (λ m. replicate m z) (index n (length xs) (length ys) ∙ ap (λ m. n - m) (sym (length-append xs ys))))
    where
      index : (a b c : ℕ) → a - b - c ≡ a - (b + c)
      index a b c = omega arith

  pub padded_long : (n : ℕ) (z : A) (xs : List A) → length xs ≤ n → length (padded n z xs) ≡ n
  padded_long n z xs h =
      length-append xs (replicate (n - length xs) z) ∙ ap (λ m. length xs + m) (length-replicate (n - length xs) z) ∙ omega (arith, h)
