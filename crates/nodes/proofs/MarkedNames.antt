-- The marks of the lowest name places, and what they tell. Assumes nothing.
use Rattle.std.proofs.Common.{◌≡◌, ◌≢◌, ◌⊎◌, ℕ, ◌+◌, ◌<◌, List, Some, None, Option, length, get_or, set, refl, sym, ap, ◌∙◌, inl, inr, arith, get_or-set_other, get_or-set_same}
use Rattle.std.proofs.Math.Numerals.{add-one}
use Rattle.std.proofs.lemmas.Bool.{cases_eq}
use Rattle.std.proofs.lemmas.Option.{none-some}
use Rattle.forest.specs.Rows.{node_or_none, root}
use Rattle.nodes.specs.MisnamedRoots.{ApartFrom, MarkedNames, name_of_form, name_root}
use Rattle.nodes.specs.Opposed.{marked_for}
use Rattle.nodes.specs.Records.{written_form}

-- one place, or none
some_or_none : (o : Option ℕ) → (o ≡ None) ⊎ ((f : ℕ) × (o ≡ Some f))
some_or_none None = inl refl
some_or_none (Some f) = inr (f, refl)

module _ (names_rows rows ws : List ℕ) (m : ℕ) where
  -- no place is marked at first
  pub names_unmarked : (marks : List ℕ) → ((r : ℕ) → get_or marks r 0 ≡ 0) → MarkedNames names_rows rows ws m 0 marks
  names_unmarked marks blank = record {
    solid = λ r f e. absurd (none-some f (sym (ap node_or_none (blank r)) ∙ e));
    others = λ k h e. absurd (omega arith);
    agree = λ k f x y h e a b. absurd (omega arith);
  }

  module _ (n : ℕ) (marks : List ℕ) (old : MarkedNames names_rows rows ws m n marks) where
    -- a place more that is no name place
    pub marked_nameless : name_of_form (written_form ws n) ≡ None → MarkedNames names_rows rows ws m (n + 1) marks
    marked_nameless nameless = record {
      solid = λ r f e. let (low, at, name) = old.solid r f e in (omega arith, at, name);
      others = λ k h e. elim (cases_eq k n) [ inl is ↦ rw is nameless | inr other ↦ old.others k (omega arith) e ];
      agree = λ k f x y h e a b. elim (cases_eq k n) [
        | inl is ↦ absurd (none-some x (sym nameless ∙ rw is at a))
        | inr other ↦ old.agree k f x y (omega arith) e a b
      ];
    }

    module _ (x : ℕ) (here : name_of_form (written_form ws n) ≡ Some x) where
      -- some place below n is apart from it
      abbrev SomeApart : Type 0
      SomeApart = (q : ℕ) × (q < n) × ApartFrom names_rows rows ws m n x q

      module _ (f : ℕ) (is : marked_for marks (root rows n) ≡ Some f) where
        -- then the marked place is
        pub apart_lower : f < n
        apart_lower = (old.solid (root rows n) f is).0

        pub apart_marked : SomeApart → ApartFrom names_rows rows ws m n x f
        apart_marked (q, low, a) =
            let (less, at, name) = old.solid (root rows n) f is in
            let (y, named) = name in
            let same = old.agree q f a.name y low (rw a.one_root is) a.named named in
            record { name = y; named = named; one_root = at; apart = λ e. a.apart (same ∙ e) }

        -- a place more whose name has the root of the name of the marked place
        one_name : (ApartFrom names_rows rows ws m n x f → ⊥) → (y : ℕ) → name_of_form (written_form ws f) ≡ Some y → name_root names_rows m n x ≡ name_root names_rows m f y
        one_name close y named = elim (cases_eq (name_root names_rows m f y) (name_root names_rows m n x)) [
          | inl e ↦ sym e
          | inr apart ↦ absurd (close (record { name = y; named = named; one_root = (old.solid (root rows n) f is).1; apart = apart }))
        ]

        pub marked_close : (ApartFrom names_rows rows ws m n x f → ⊥) → MarkedNames names_rows rows ws m (n + 1) marks
        marked_close close = record {
          solid = λ r g e. let (low, at, name) = old.solid r g e in (omega arith, at, name);
          others = λ k h e. elim (cases_eq k n) [
            | inl one ↦ absurd (none-some f (sym (rw one at e) ∙ is))
            | inr other ↦ old.others k (omega arith) e
          ];
          agree = λ k g z y h e a b. elim (cases_eq k n) [
            | inl one ↦
                let two : g ≡ f = grind arith in
                let three : z ≡ x = grind arith in
                rw (one, two, three) (one_name close y (rw two at b))
            | inr other ↦ old.agree k g z y (omega arith) e a b
          ];
        }

      module _ (is : marked_for marks (root rows n) ≡ None) where
        -- where none is marked, none is apart
        pub none_apart : SomeApart → ⊥
        none_apart (q, low, a) = none-some a.name (sym (old.others q low (rw a.one_root is)) ∙ a.named)

        -- and the place is marked
        module _ (room : root rows n < length marks) where
          marked : (r : ℕ) → r ≡ root rows n → marked_for (set marks (root rows n) (n + 1)) r ≡ Some n
          marked r e = rw (e, get_or-set_same, add-one) refl

          it_is : (r f : ℕ) → r ≡ root rows n → marked_for (set marks (root rows n) (n + 1)) r ≡ Some f → f ≡ n
          it_is r f one e = let two : Some f ≡ Some n = sym e ∙ marked r one in cc

          there : (r : ℕ) → r ≢ root rows n → marked_for (set marks (root rows n) (n + 1)) r ≡ marked_for marks r
          there r ne = rw get_or-set_other refl

          elsewhere : (k : ℕ) → k < n + 1 → root rows k ≢ root rows n → k < n
          elsewhere k h ne = elim (cases_eq k n) [ inl e ↦ absurd (ne (ap (root rows) e)) | inr other ↦ omega arith ]

          pub marked_first : MarkedNames names_rows rows ws m (n + 1) (set marks (root rows n) (n + 1))
          marked_first = record {
            solid = λ r f e. elim (cases_eq r (root rows n)) [
              | inl one ↦ let two : f ≡ n = it_is r f one e in (omega arith, rw (two, one) refl, (x, rw two here))
              | inr other ↦ let (low, at, name) = old.solid r f (sym (there r other) ∙ e) in (omega arith, at, name)
            ];
            others = λ k h e. elim (cases_eq (root rows k) (root rows n)) [
              | inl one ↦ absurd (none-some n (sym e ∙ marked (root rows k) one))
              | inr other ↦ old.others k (elsewhere k h other) (sym (there (root rows k) other) ∙ e)
            ];
            agree = λ k f z y h e a b. elim (cases_eq (root rows k) (root rows n)) [
              | inl one ↦ elim (cases_eq k n) [
                | inl it ↦
                    let two : f ≡ n = it_is (root rows k) f one e in
                    let three : z ≡ y = names_one z y (rw it at a) (rw two at b) in
                    rw (it, two, three) refl
                | inr less ↦ absurd (none-some z (sym (old.others k (omega arith) (rw one is)) ∙ a))
              ]
              | inr other ↦ old.agree k f z y (elsewhere k h other) (sym (there (root rows k) other) ∙ e) a b
            ];
          }
            where
              names_one : (z y : ℕ) → name_of_form (written_form ws n) ≡ Some z → name_of_form (written_form ws n) ≡ Some y → z ≡ y
              names_one z y a b = let c : Some z ≡ Some y = sym a ∙ b in cc
