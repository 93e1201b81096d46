-- The marks of a search from root to root, and what they tell. Assumes nothing.
use Rattle.std.proofs.Common.{◌≡◌, ◌≢◌, ◌⊎◌, ℕ, zero, suc, ◌+◌, ◌*◌, ◌-◌, ◌<◌, ◌≤◌, List, Some, None, length, length-set, get_or, set, refl, sym, ◌∙◌, inl, inr, arith, get_or-set_other, get_or-set_same}
use Rattle.std.proofs.lemmas.Bool.{cases_eq}
use Rattle.std.proofs.lemmas.Option.{none-some}
use Rattle.forest.specs.Rows.{Rows, remembered, root}
use Rattle.forest.proofs.Roots.{root_root}
use Rattle.nodes.specs.Searches.{AllPassed, Done, Leads, NoneReturns, OnWay, Passed, Searched, SomeCycle, SomeDone, Step, blanks}
use Rattle.nodes.proofs.CyclesFound.{leads_on}

-- a step over a part that is found
pub step_found : (rows : List ℕ) (r side part s : ℕ) → side < 3 → Some part ≡ remembered rows r side → s ≡ root rows part → Step rows r s
step_found rows r side part s low has to = record { side = side; part = part; low = low; has = sym has; to = sym to }

-- what is done stays so
pub still_done : (old new : List ℕ) (x : ℕ) → SomeDone old new → Done old x → Done new x
still_done old new x some h = elim (some x) [ inl e ↦ omega arith | inr w ↦ w.1 ]

pub some_same : (marks : List ℕ) → SomeDone marks marks
some_same marks x = inl refl

pub some_chain : (a b c : List ℕ) → SomeDone a b → SomeDone b c → SomeDone a c
some_chain a b c f g x = elim (g x) [
  | inl e ↦ elim (f x) [ inl d ↦ inl (e ∙ d) | inr w ↦ inr (w.0, omega arith) ]
  | inr w ↦ elim (f x) [ inl d ↦ inr (sym d ∙ w.0, w.1) | inr v ↦ absurd (omega arith) ]
]

less_from : (a b : ℕ) → (a ≡ 0 → b ≡ 0) → 1 - a ≤ 1 - b
less_from zero b back = let is = back refl in omega arith
less_from (suc a) b back = omega arith

-- fewer marks are 0
blanks_le : (n : ℕ) (old new : List ℕ) → ((x : ℕ) → get_or new x 0 ≡ 0 → get_or old x 0 ≡ 0) → blanks n new ≤ blanks n old
unfolding blanks
blanks_le zero old new back = omega arith
blanks_le (suc n) old new back = omega (arith, blanks_le n old new back, less_from (get_or new n 0) (get_or old n 0) (back n))

blanks_lt : (n r : ℕ) (old new : List ℕ) → ((x : ℕ) → get_or new x 0 ≡ 0 → get_or old x 0 ≡ 0) → r < n → get_or old r 0 ≡ 0 → 0 < get_or new r 0 → blanks n new < blanks n old
unfolding blanks
blanks_lt zero r old new back low was is = omega arith
blanks_lt (suc n) r old new back low was is = elim (cases_eq r n) [
  | inl e ↦ let was_n = rw e at was in let is_n = rw e at is in omega (arith, blanks_le n old new back)
  | inr ne ↦ omega (arith, blanks_lt n r old new back (omega arith) was is, less_from (get_or new n 0) (get_or old n 0) (back n))
]

-- a root that is seen
module _ (old : List ℕ) (r : ℕ) (room : r < length old) (blank : get_or old r 0 ≡ 0) where
  abbrev pub seen : List ℕ
  seen = set old r 1

  pub seen_here : get_or seen r 0 ≡ 1
  seen_here = get_or-set_same old r 1 0 room

  pub seen_other : (x : ℕ) → x ≢ r → get_or seen x 0 ≡ get_or old x 0
  seen_other x ne = rw get_or-set_other refl

  pub done_before : (x : ℕ) → Done seen x → Done old x
  done_before x h = elim (cases_eq x r) [ inl e ↦ absurd (let at = rw e at h in omega (arith, seen_here)) | inr ne ↦ omega (arith, seen_other x ne) ]

  pub done_after : (x : ℕ) → Done old x → Done seen x
  done_after x h = elim (cases_eq x r) [ inl e ↦ absurd (let at = rw e at h in omega arith) | inr ne ↦ omega (arith, seen_other x ne) ]

  module _ (new : List ℕ) (long : length new ≡ length seen) (some : SomeDone seen new) where
    length_old : length new ≡ length old
    length_old = long ∙ length-set old r 1

    pub still_seen : get_or new r 0 ≡ 1
    still_seen = elim (some r) [ inl e ↦ e ∙ seen_here | inr w ↦ absurd (omega (arith, w.0, seen_here)) ]

    blank_back : (x : ℕ) → get_or new x 0 ≡ 0 → get_or old x 0 ≡ 0
    blank_back x e = elim (cases_eq x r) [
      | inl is ↦ absurd (let at = rw is at e in omega (arith, still_seen))
      | inr ne ↦ elim (some x) [ inl d ↦ omega (arith, seen_other x ne) | inr w ↦ absurd (omega arith) ]
    ]

    pub fewer_blanks : blanks (length new) new < blanks (length old) old
    fewer_blanks = rw length_old (blanks_lt (length old) r old new blank_back room blank (omega (arith, still_seen)))

    -- where it is done too in the end
    pub done_here : Done (set new r 2) r
    done_here = let inside : r < length new = omega (arith, length_old) in rw get_or-set_same (omega arith)

    pub some_done : SomeDone old (set new r 2)
    some_done x = elim (cases_eq x r) [
      | inl e ↦ inr (rw e blank, rw e done_here)
      | inr ne ↦ elim (some x) [
        | inl d ↦ inl (get_or-set_other new r x 2 0 ne ∙ d ∙ seen_other x ne)
        | inr w ↦ inr (sym (seen_other x ne) ∙ w.0, rw (get_or-set_other new r x 2 0 ne) w.1)
      ]
    ]

    done_more : (x : ℕ) → Done new x → Done (set new r 2) x
    done_more x h = elim (cases_eq x r) [ inl e ↦ rw e done_here | inr ne ↦ rw (get_or-set_other new r x 2 0 ne) h ]

    pub done_less : (x : ℕ) → x ≢ r → Done (set new r 2) x → Done new x
    done_less x ne h = rw (get_or-set_other new r x 2 0 ne) at h

    module _ (rows : List ℕ) where
      -- what is on the way leads to the root, or is it
      pub way_here : OnWay rows old r → (x : ℕ) → get_or new x 0 ≡ 1 → (x ≡ r) ⊎ Leads rows x r
      way_here way x is = elim (cases_eq x r) [
        | inl e ↦ inl e
        | inr ne ↦ elim (some x) [ inl e ↦ inr (way x (sym (seen_other x ne) ∙ sym e ∙ is)) | inr w ↦ absurd (omega arith) ]
      ]

      -- and so to what the root has a step to
      pub way_next : (s : ℕ) → OnWay rows old r → Step rows r s → OnWay rows new s
      way_next s way e x is = elim (way_here way x is) [ inl at ↦ rw at (Leads.one e) | inr l ↦ leads_on rows l (Leads.one e) ]

      pub way_back : (s : ℕ) → OnWay rows old r → Step rows r s → get_or new s 0 ≡ 1 → Leads rows r r
      way_back s way e is = elim (way_here way s is) [ inl at ↦ rw at at (Leads.one e) | inr l ↦ Leads.more e l ]

      done_leads : {x t : ℕ} → NoneReturns rows new → Done new x → Leads rows x t → Done new t
      done_leads {x} {t} none h (Leads.one e) = none.closed x t h e
      done_leads {x} none h (Leads.more {s = s} e l) = done_leads none (none.closed x s h e) l

      module _ (none : NoneReturns rows new) (below : (s : ℕ) (e : Step rows r s) → e.side < 3 → Done new s) where
        to_done : {t : ℕ} → Leads rows r t → Done new t
        to_done {t} (Leads.one e) = below t e e.low
        to_done (Leads.more {s = s} e l) = done_leads none (below s e e.low) l

        -- all its sides are passed
        pub all_passed : AllPassed rows r old (set new r 2)
        all_passed = record {
          some = some_done;
          none = record {
            closed = λ x s h e. elim (cases_eq x r) [
              | inl is ↦ let at : Step rows r s = rw is at e in done_more s (below s at at.low)
              | inr ne ↦ done_more s (none.closed x s (done_less x ne h) e)
            ];
            apart = λ x h l. elim (cases_eq x r) [
              | inl is ↦ let d = to_done (rw is at l) in omega (arith, still_seen)
              | inr ne ↦ none.apart x (done_less x ne h) l
            ];
          };
          here = done_here;
        }

module _ (rows : List ℕ) (r : ℕ) where
  -- no side is passed
  pub passed_none : (old : List ℕ) → r < length old → get_or old r 0 ≡ 0 → NoneReturns rows old → Passed rows r 0 (set old r 1) (set old r 1)
  passed_none old room blank none = record {
    some = some_same (set old r 1);
    none = record {
      closed = λ x s h e. done_after old r room blank s (none.closed x s (done_before old r room blank x h) e);
      apart = λ x h l. none.apart x (done_before old r room blank x h) l;
    };
    below = λ s e h. absurd (omega arith);
  }

  module _ (n : ℕ) (first old : List ℕ) (passed : Passed rows r n first old) where
    -- one side more, without a part
    pub passed_skip : remembered rows r n ≡ None → Passed rows r (n + 1) first old
    passed_skip none = record {
      some = passed.some;
      none = passed.none;
      below = λ s e h. elim (cases_eq e.side n) [
        | inl is ↦ absurd (none-some e.part (sym none ∙ rw is at e.has))
        | inr ne ↦ passed.below s e (omega arith)
      ];
    }

    -- or with one whose root is done
    pub passed_next : (part : ℕ) (new : List ℕ) → remembered rows r n ≡ Some part → SomeDone old new → NoneReturns rows new → Done new (root rows part) → Passed rows r (n + 1) first new
    passed_next part new has some none done = record {
      some = some_chain first old new passed.some some;
      none = none;
      below = λ s e h. elim (cases_eq e.side n) [
        | inl is ↦ let it : Some e.part ≡ Some part = sym (rw is at e.has) ∙ has in let one : e.part ≡ part = cc in rw (← e.to, one) done
        | inr ne ↦ still_done old new s some (passed.below s e (omega arith))
      ];
    }

module _ (rows : List ℕ) where
  pub searched_none : (marks : List ℕ) → ((x : ℕ) → get_or marks x 0 ≡ 0) → Searched rows 0 marks
  searched_none marks blank = record {
    none = record { closed = λ x s h e. absurd (omega (arith, blank x)); apart = λ x h l. omega (arith, blank x) };
    still = λ x e. omega (arith, blank x);
    roots = λ k h. absurd (omega arith);
  }

  -- the root of one node more is done already
  pub searched_done : (n : ℕ) (marks : List ℕ) → Searched rows n marks → get_or marks (root rows n) 0 ≢ 0 → Searched rows (n + 1) marks
  searched_done n marks s seen = record {
    none = s.none;
    still = s.still;
    roots = λ k h. elim (cases_eq k n) [
      | inl e ↦ rw e (let not_on : get_or marks (root rows n) 0 ≢ 1 = s.still (root rows n) in omega arith)
      | inr ne ↦ s.roots k (omega arith)
    ];
  }

  -- or has been searched
  pub searched_more : (n : ℕ) (old new : List ℕ) → Searched rows n old → AllPassed rows (root rows n) old new → Searched rows (n + 1) new
  searched_more n old new s all = record {
    none = all.none;
    still = λ x e. elim (all.some x) [ inl d ↦ s.still x (sym d ∙ e) | inr w ↦ let d = w.1 in omega arith ];
    roots = λ k h. elim (cases_eq k n) [
      | inl e ↦ rw e all.here
      | inr ne ↦ still_done old new (root rows k) all.some (s.roots k (omega arith))
    ];
  }

  -- a way leads to roots
  leads_root : {r t : ℕ} → Rows rows → Leads rows r t → root rows t ≡ t
  leads_root forest (Leads.one e) = rw (← e.to) (root_root rows e.part forest.low)
  leads_root forest (Leads.more e l) = leads_root forest l

  pub searched_all : (n : ℕ) (marks : List ℕ) → Rows rows → length rows ≡ 4 * n → Searched rows n marks → SomeCycle rows → ⊥
  searched_all n marks forest long s (x, node, l) =
      let inside : x < n = omega arith in
      let done = s.roots x inside in
      s.none.apart x (rw (leads_root forest l) at done) l
