-- What one pass over a table marks tells the faults of its places. Assumes nothing.
use Rattle.std.proofs.Common.{◌≡◌, ℕ, zero, suc, ◌+◌, ◌<◌, ◌≤◌, Bool, true, false, cond, eqb, ltb, leb, List, [], ◌∷◌, length, get_or, set, replicate, is_some, Some, None, Option, unwrap_or, Ok, Err, sym, refl, ap, ◌∙◌, ap₂, subst₂, inl, inr, add-zero, add-one, arith}
use mathlib.Core.Path.{fun_ext}
use Rattle.std.proofs.lemmas.List.{length-replicate, length-set, get_or-set_same, get_or-set_other}
use Rattle.std.proofs.lemmas.Option.{slice_get-get_or}
use Rattle.std.proofs.lemmas.Bool.{cases_eq, cond-true, cond-false, eq-eqb, ne_eqb, eqb-true, eqb-false, leb-false, ltb-false, lt-leb, or_parts, or_from}
use Rattle.std.specs.Option.{option_map, option_or}
use Rattle.std.specs.List.{slice_get, list_any}
use Rattle.recipe.specs.declared.checker.Checker.{Checker}
use Rattle.recipe.specs.declared.places.Place.{Place}
use Rattle.recipe.specs.declared.refusals.Refusal.{Refusal}
use Rattle.recipe.specs.Common.{first_below}
use Rattle.recipe.specs.Recipes.{Part}
use Rattle.recipe.specs.Scopes.{Scope, extended}
use Rattle.recipe.specs.Tables.{Table, Holder, parts, leaf_form, form_by, form_of, table_of, holds_by, holder_below, holder, scope, scope_under, depth}
use Rattle.recipe.specs.Checking.{outside, held_among, bad_part, held_twice, fault_by_tests, fault_in, fault_at}
use Rattle.recipe.specs.Marks.{parts_of, is_marked, marked_depth, deeper, marked, fault_seen, refused_by}
use Rattle.recipe.proofs.Faults.{past, none_passes, passes_none, Clear, clear}
use Rattle.recipe.proofs.Firsts.{not_some, mapped_or_other, first_more, first_none, some_first}
use Rattle.recipe.proofs.Holders.{holds, scope_step}
use Rattle.recipe.proofs.Lists.{replicate_at}

-- a leaf has no parts
leaf_parts : {L : Type 0} (o : Option L) → parts (leaf_form o) ≡ []
leaf_parts None = refl
leaf_parts (Some l) = refl

parts_by_kind : {L M : Type 0} (o : Option L) (u : Option M) (a b k : ℕ) → parts (form_by o a b k) ≡ parts (form_by u a b k)
parts_by_kind o u a b zero = refl
parts_by_kind o u a b (suc zero) = leaf_parts o ∙ sym (leaf_parts u)
parts_by_kind o u a b (suc (suc zero)) = refl
parts_by_kind o u a b (suc (suc (suc zero))) = refl
parts_by_kind o u a b (suc (suc (suc (suc zero)))) = refl
parts_by_kind o u a b (suc (suc (suc (suc (suc zero))))) = refl
parts_by_kind o u a b (suc (suc (suc (suc (suc (suc k)))))) = refl

-- the parts of a record do not depend on the leaves
pub parts_of_form : {L : Type 0} (ls : List L) (x : Place) → parts (form_of ls x) ≡ parts_of x
parts_of_form ls x = parts_by_kind (slice_get ls x.a) None x.a x.b x.kind

-- the depth below a holder
abbrev pub depth_under : {L : Type 0} → Table L → Holder → ℕ
depth_under T h = length (extended h.under (scope T h.place))

-- the marks tell the depth of each place that a place below p holds
abbrev pub MarksTell : {L : Type 0} → Table L → ℕ → List (Option ℕ) → Type 0
MarksTell T p marks = (c : ℕ) → get_or marks c None ≡ option_map (depth_under T) (holder_below T p c)

-- a mark that is set is read back, and the others stay
set_read : (marks : List (Option ℕ)) (i c : ℕ) (v : Option ℕ) → i < length marks → get_or (set marks i v) c None ≡ cond (eqb i c) v (get_or marks c None)
set_read marks i c v h =
    elim (cases_eq i c) [
      | inl e ↦ ap (λ k. get_or (set marks i v) k None) (sym e) ∙ get_or-set_same marks i v None h ∙ sym (cond-true _ _ _ (eq-eqb i c e))
      | inr ne ↦ get_or-set_other marks i c v None (λ e. ne (sym e)) ∙ sym (cond-false _ _ _ (ne_eqb i c ne))
    ]

-- before the first place no mark is set
pub tell_none : {L : Type 0} (T : Table L) (n : ℕ) → MarksTell T 0 (replicate n None)
unfolding first_below
tell_none T n c = replicate_at n c None

-- a function of an answer is an answer
is_some_mapped : {A B : Type 0} (f : A → B) (o : Option A) → is_some (option_map f o) ≡ is_some o
is_some_mapped f None = refl
is_some_mapped f (Some a) = refl

or_other_none : {A : Type 0} (o : Option A) → o ≡ option_or o None
or_other_none None = refl
or_other_none (Some a) = refl

-- two tests of places that agree
held_among_same : (f g : ℕ → Bool) → ((c : ℕ) → f c ≡ g c) → (xs : List (Part ℕ)) → held_among f xs ≡ held_among g xs
held_among_same f g same xs = ap (λ t. held_among t xs) (fun_ext same)

-- the depth below a binder, or below none
extended_depth : (u : Option ℕ) (Φ : Scope) → length Φ + deeper u ≡ length (extended u Φ)
extended_depth None Φ = add-zero (length Φ)
extended_depth (Some a) Φ = add-one (length Φ)

-- a mark at a place leaves the other parts free
still_free : (marks : List (Option ℕ)) (i : ℕ) (v : Option ℕ) (xs : List (Part ℕ)) → list_any (λ y. is_marked marks y.at) xs ≡ false → list_any (λ y. eqb y.at i) xs ≡ false → list_any (λ y. is_marked (set marks i v) y.at) xs ≡ false
still_free marks i v xs free apart =
    passes_none _ xs
    (λ y j. ap is_some (get_or-set_other marks i y.at v None (eqb-false y.at i (none_passes _ xs apart y j))) ∙ none_passes _ xs free y j)

-- the depth below a holder of the depth d
abbrev depth_from : ℕ → Holder → ℕ
depth_from d h = d + deeper h.under

module _ (d p c : ℕ) where
  -- a mark that is set for a part that was free
  join_mark : (b : Bool) (o : Option ℕ) (h : Holder) (t : Option Holder) → (b ≡ true → o ≡ None) → option_or (cond b (Some (depth_from d h)) o) (option_map (depth_from d) t) ≡ option_or o (option_map (depth_from d) (cond b (Some h) t))
  join_mark true o h t free = rw (free refl)
  join_mark false o h t free = refl

  -- the marks after a place tell the marks before it, and else what it holds
  marked_read : (xs : List (Part ℕ)) (marks : List (Option ℕ)) → list_any (λ x. leb (length marks) x.at) xs ≡ false → held_among (is_marked marks) xs ≡ false → get_or (marked d xs marks) c None ≡ option_or (get_or marks c None) (option_map (depth_from d) (holds_by p xs c))
  marked_read [] marks within free = or_other_none (get_or marks c None)
  marked_read (x ∷ xs) marks within free =
      let (in_x, in-xs) = or_parts (leb (length marks) x.at) _ within in
      let (held, two) = or_parts (list_any (λ y. is_marked marks y.at) (x ∷ xs)) _ free in
      let (free_x, free-xs) = or_parts (is_marked marks x.at) _ held in
      let (apart, two-xs) = or_parts (list_any (λ y. eqb y.at x.at) xs) _ two in
      let v = Some (d + deeper x.under) in
      let there : x.at < length marks = leb-false (length marks) x.at in_x in
      marked_read xs (set marks x.at v) (rw length-set in-xs) (or_from _ _ (still_free marks x.at v xs free-xs apart) two-xs)
      ∙ ap (λ o. option_or o (option_map (depth_from d) (holds_by p xs c))) (set_read marks x.at c v there)
      ∙ join_mark (eqb x.at c) (get_or marks c None) (holds p x) (holds_by p xs c) (λ e. ap (λ k. get_or marks k None) (sym (eqb-true x.at c e)) ∙ not_some _ free_x)

module _ {L : Type 0} (T : Table L) (p : ℕ) where
  -- the depth below a holder, or 0 where there is none
  under_depth : (o : Option Holder) → unwrap_or (option_map (depth_under T) o) 0 ≡ length (scope_under (scope T) o)
  under_depth None = refl
  under_depth (Some h) = refl

  -- the marks tell the depth of the place itself
  pub told_depth : (marks : List (Option ℕ)) → MarksTell T p marks → marked_depth marks p ≡ depth T p
  told_depth marks tell = ap (λ o. unwrap_or o 0) (tell p) ∙ under_depth (holder T p) ∙ ap length (sym (scope_step T p))

  -- one step of `holds_depth`
  mapped_cond : (b : Bool) (x : Part ℕ) (t : Option Holder) → option_map (depth_from (depth T p)) t ≡ option_map (depth_under T) t → option_map (depth_from (depth T p)) (cond b (Some (holds p x)) t) ≡ option_map (depth_under T) (cond b (Some (holds p x)) t)
  mapped_cond true x t e = ap Some (extended_depth x.under (scope T p))
  mapped_cond false x t e = e

  -- what the place p holds is marked with the depth below p
  holds_depth : (xs : List (Part ℕ)) (c : ℕ) → option_map (depth_from (depth T p)) (holds_by p xs c) ≡ option_map (depth_under T) (holds_by p xs c)
  holds_depth [] c = refl
  holds_depth (x ∷ xs) c = mapped_cond (eqb x.at c) x (holds_by p xs c) (holds_depth xs c)

  -- the marks after the place p, none of whose parts is held twice
  pub tell_more : (marks : List (Option ℕ)) → MarksTell T p marks → list_any (λ x. leb (length marks) x.at) (parts (T.form p)) ≡ false → held_among (is_marked marks) (parts (T.form p)) ≡ false → MarksTell T (suc p) (marked (depth T p) (parts (T.form p)) marks)
  tell_more marks tell within free c =
      marked_read (depth T p) p c (parts (T.form p)) marks within free
      ∙ ap₂ option_or (tell c) (holds_depth (parts (T.form p)) c)
      ∙ sym (mapped_or_other (depth_under T) (holder_below T p c) _)
      ∙ ap (option_map (depth_under T)) (sym (first_more (λ q. holds_by q (parts (T.form q)) c) p))

-- as many marks as before
pub length-marked : (d : ℕ) (xs : List (Part ℕ)) (marks : List (Option ℕ)) → length (marked d xs marks) ≡ length marks
length-marked d [] marks = refl
length-marked d (x ∷ xs) marks = length-marked d xs (set marks x.at (Some (d + deeper x.under))) ∙ length-set marks x.at _

-- an answer that refuses has a fault behind it, and one that does not has none
pub refused_fault : (o : Option Refusal) (r : Refusal) → refused_by o ≡ Err r → o ≡ Some r
refused_fault None r e = cc
refused_fault (Some q) r e = cc

pub passed_none : (o : Option Refusal) (u : Unit {0}) → refused_by o ≡ Ok u → o ≡ None
passed_none None u e = refl
passed_none (Some q) u e = cc

-- what the checker knows before the place p: no place below p has a fault, and the depths are those of what these places hold
pub record Knows {L : Type 0} (places : List Place) (ls : List L) (p : ℕ) (k : Checker) : Type 0 where
  pub size : k.size ≡ length places
  pub leaf_count : k.leaf_count ≡ length ls
  pub long : length k.depths ≡ 512
  pub tell : MarksTell (table_of places ls) p k.depths
  pub clean : first_below (fault_at places ls) p ≡ None

module _ {L : Type 0} (places : List Place) (ls : List L) where
  abbrev T : Table L
  T = table_of places ls

  -- at the first place
  pub knows_first : (k : Checker) → k.size ≡ length places → k.leaf_count ≡ length ls → k.depths ≡ replicate 512 None → Knows places ls 0 k
  unfolding first_below
  knows_first k size leaves none = record {
    size = size;
    leaf_count = leaves;
    long = let mark : Option ℕ = None in ap length none ∙ length-replicate 512 mark;
    tell = rw none (tell_none T 512);
    clean = refl;
  }

  -- one turn of the pass, at the place p, whose record is x
  module _ (p : ℕ) (k : Checker) (low : p < length places) (knows : Knows places ls p k) where
    abbrev x : Place
    x = get_or places p past

    -- the parts of the place are those of its record
    form_parts : parts (T.form p) ≡ parts_of x
    form_parts = rw (slice_get-get_or places p past low) (parts_of_form ls x)

    -- a part is marked exactly when a lower place holds it
    held_told : held_among (is_marked k.depths) (parts_of x) ≡ held_twice T p
    held_told =
        held_among_same (is_marked k.depths) (λ c. is_some (holder_below T p c)) (λ c. ap is_some (knows.tell c) ∙ is_some_mapped (depth_under T) (holder_below T p c)) (parts_of x)
        ∙ ap (held_among (λ c. is_some (holder_below T p c))) (sym form_parts)

    -- the fault that the checker sees is that of the place
    fault_told : fault_seen k.leaf_count k.size k.depths p x ≡ fault_at places ls p
    fault_told =
        let again = held_among (is_marked k.depths) (parts_of x) in
        let deep = ltb 64 (marked_depth k.depths p) in
        ap₂ (λ many size. fault_seen many size k.depths p x) knows.leaf_count knows.size
        ∙ ap (λ b. fault_by_tests (length ls) p x b again deep) (ap (list_any (outside p (length places))) (sym form_parts))
        ∙ ap (λ b. fault_by_tests (length ls) p x (bad_part T p) b deep) held_told
        ∙ ap (λ n. fault_by_tests (length ls) p x (bad_part T p) (held_twice T p) (ltb 64 n)) (told_depth T p k.depths knows.tell)
        ∙ ap (fault_in T (length ls) p) (sym (slice_get-get_or places p past low))

    -- a refusal is that of the table
    pub refused_told : (r : Refusal) → refused_by (fault_seen k.leaf_count k.size k.depths p x) ≡ Err r → refused_by (first_below (fault_at places ls) (length places)) ≡ Err r
    refused_told r e =
        ap refused_by (some_first (fault_at places ls) (length places) p r low (sym fault_told ∙ refused_fault _ r e) (first_none (fault_at places ls) p knows.clean))

    module _ (none : fault_seen k.leaf_count k.size k.depths p x ≡ None) where
      -- the place has none of the five faults
      tests : Clear k.leaf_count x (list_any (outside p k.size) (parts_of x)) (held_among (is_marked k.depths) (parts_of x)) (ltb 64 (marked_depth k.depths p))
      tests = clear k.leaf_count p x _ _ _ none

      -- it is not too deep
      pub told_shallow : marked_depth k.depths p ≤ 64
      told_shallow = ltb-false 64 (marked_depth k.depths p) tests.shallow

      -- its parts have marks
      marks_within : length places ≤ 512 → list_any (λ y. leb (length k.depths) y.at) (parts (T.form p)) ≡ false
      marks_within few =
          rw (form_parts, knows.long)
          (passes_none (λ y. leb 512 y.at) (parts_of x)
          (λ y i. let below : y.at < k.size = leb-false k.size y.at (or_parts (leb y.at p) _ (none_passes (outside p k.size) (parts_of x) tests.rising y i)).1 in let size = knows.size in lt-leb 512 y.at (omega arith)))

      -- the next place
      pub knows_more : length places ≤ 512 → (next : Checker) → next.size ≡ k.size → next.leaf_count ≡ k.leaf_count → next.depths ≡ marked (marked_depth k.depths p) (parts_of x) k.depths → Knows places ls (p + 1) next
      knows_more few next size leaves is = record {
        size = size ∙ knows.size;
        leaf_count = leaves ∙ knows.leaf_count;
        long = ap length is ∙ length-marked (marked_depth k.depths p) (parts_of x) k.depths ∙ knows.long;
        tell =
            subst₂ (MarksTell T) (sym (add-one p))
            (ap₂ (λ e xs. marked e xs k.depths) (sym (told_depth T p k.depths knows.tell)) form_parts ∙ sym is)
            (tell_more T p k.depths knows.tell (marks_within few) (rw form_parts tests.once));
        clean = rw (add-one, first_more (fault_at places ls) p, knows.clean) (sym fault_told ∙ none);
      }
