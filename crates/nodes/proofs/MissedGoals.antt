-- The marks of a search from root to root for a goal, and what they tell. Assumes nothing.
use Rattle.std.proofs.Common.{◌≡◌, ◌≢◌, ℕ, ◌+◌, ◌<◌, List, Some, None, length, get_or, set, refl, sym, ap, ◌∙◌, inl, inr, arith, get_or-set_other}
use Rattle.std.proofs.lemmas.Bool.{cases_eq}
use Rattle.std.proofs.lemmas.Option.{none-some}
use Rattle.forest.specs.Rows.{remembered, root}
use Rattle.nodes.specs.Searches.{AllMiss, Done, Leads, Misses, SidesMiss, SomeDone, Step}
use Rattle.nodes.proofs.MarkedRoots.{done_before, done_here, done_less, some_chain, some_done, some_same}

-- what is seen stays so
pub still_shown : (old new : List ℕ) (x : ℕ) → SomeDone old new → 0 < get_or old x 0 → 0 < get_or new x 0
still_shown old new x some h = elim (some x) [ inl e ↦ omega arith | inr w ↦ let d = w.1 in omega arith ]

module _ (rows : List ℕ) (goal r : ℕ) where
  -- no side is passed
  pub misses_none : (old : List ℕ) → r < length old → get_or old r 0 ≡ 0 → Misses rows goal old → SidesMiss rows goal r 0 (set old r 1) (set old r 1)
  misses_none old room blank misses = record {
    some = some_same (set old r 1);
    misses = λ x s h e. let (shown, other) = misses x s (done_before old r room blank x h) e in
        let ne : s ≢ r = λ is. (let at = rw is at shown in omega arith) in
        (rw (get_or-set_other old r s 1 0 ne) shown, other);
    below = λ s e h. absurd (omega arith);
  }

  module _ (n : ℕ) (first old : List ℕ) (passed : SidesMiss rows goal r n first old) where
    -- one side more, without a part
    pub misses_skip : remembered rows r n ≡ None → SidesMiss rows goal r (n + 1) first old
    misses_skip none = record {
      some = passed.some;
      misses = passed.misses;
      below = λ s e h. elim (cases_eq e.side n) [
        | inl is ↦ absurd (none-some e.part (sym none ∙ rw is at e.has))
        | inr ne ↦ passed.below s e (omega arith)
      ];
    }

    -- or with one whose root is seen, and is not the goal
    pub misses_next : (part : ℕ) (new : List ℕ) → remembered rows r n ≡ Some part → SomeDone old new → Misses rows goal new → 0 < get_or new (root rows part) 0 → root rows part ≢ goal → SidesMiss rows goal r (n + 1) first new
    misses_next part new has some misses shown other = record {
      some = some_chain first old new passed.some some;
      misses = misses;
      below = λ s e h. elim (cases_eq e.side n) [
        | inl is ↦
            let it : Some e.part ≡ Some part = sym (rw is at e.has) ∙ has in
            let one : e.part ≡ part = cc in
            let to : s ≡ root rows part = sym e.to ∙ ap (root rows) one in
            (rw to shown, rw to other)
        | inr ne ↦ let (was, not_goal) = passed.below s e (omega arith) in (still_shown old new s some was, not_goal)
      ];
    }

  -- all its sides are passed
  pub all_miss : (old new : List ℕ) → (room : r < length old) (blank : get_or old r 0 ≡ 0) → length new ≡ length (set old r 1) → SidesMiss rows goal r 3 (set old r 1) new → AllMiss rows goal r old (set new r 2)
  all_miss old new room blank long passed =
      let here = done_here old r room blank new long passed.some in
      let shown : (s : ℕ) → 0 < get_or new s 0 → 0 < get_or (set new r 2) s 0 = λ s h. elim (cases_eq s r) [
        | inl e ↦ rw e (omega (arith, here))
        | inr ne ↦ rw (get_or-set_other new r s 2 0 ne) h
      ] in
      record {
        some = some_done old r room blank new long passed.some;
        misses = λ x s h e. elim (cases_eq x r) [
          | inl is ↦ let at : Step rows r s = rw is at e in let (was, not_goal) = passed.below s at at.low in (shown s was, not_goal)
          | inr ne ↦ let (was, not_goal) = passed.misses x s (done_less old r room blank new long passed.some x ne h) e in (shown s was, not_goal)
        ];
        here = here;
      }

module _ (rows : List ℕ) (goal : ℕ) where
  pub misses_blank : (marks : List ℕ) → ((x : ℕ) → get_or marks x 0 ≡ 0) → Misses rows goal marks
  misses_blank marks blank x s h e = absurd (omega (arith, blank x))

  -- where a search from a root has missed the goal, no way leads there
  module _ (old new : List ℕ) (blank : (x : ℕ) → get_or old x 0 ≡ 0) (some : SomeDone old new) (misses : Misses rows goal new) where
    all_done : (x : ℕ) → 0 < get_or new x 0 → Done new x
    all_done x h = elim (some x) [ inl e ↦ omega (arith, blank x) | inr w ↦ w.1 ]

    pub leads_past : {r t : ℕ} → Done new r → Leads rows r t → t ≢ goal
    leads_past {r} {t} h (Leads.one e) = (misses r t h e).1
    leads_past {r} h (Leads.more {s = s} e l) = leads_past (all_done s (misses r s h e).0) l

    pub none_leads : {r : ℕ} → Done new r → Leads rows r goal → ⊥
    none_leads h l = leads_past h l refl
