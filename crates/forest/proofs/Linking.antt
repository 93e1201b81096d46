-- A root is put under a lower one: the parts that the loop over the sides takes, and the write of the parent. Assumes nothing.
use Rattle.std.proofs.Common.{◌≡◌, ◌≢◌, ℕ, ◌+◌, ◌*◌, ◌<◌, ◌≤◌, List, length, set, slice_index, length-set, Some, None, Option, inl, inr, refl, sym, ap, ◌∙◌, arith}
use Rattle.std.proofs.lemmas.Bool.{cases_eq}
use Rattle.std.specs.Option.{option_or}
use Rattle.forest.specs.Rows.{IsNode, Rows, parent, remembered}
use Rattle.forest.specs.Steps.{Links}
use Rattle.forest.proofs.Roots.{linked_low, node_below, parent_elsewhere, parent_kept, parent_written, part_copied, part_elsewhere, part_kept, root_linked, weight_set}

-- the root low has taken the parts of high for the first k sides where it had none, and all else is as before
pub record Taken (low high k : ℕ) (old ws : List ℕ) : Type 0 where
  pub parents : (i : ℕ) → parent ws i ≡ parent old i
  pub taken : (side : ℕ) → side < 3 → side < k → remembered ws low side ≡ option_or (remembered old low side) (remembered old high side)
  pub rest : (side : ℕ) → side < 3 → k ≤ side → remembered ws low side ≡ remembered old low side
  pub others : (i side : ℕ) → side < 3 → i ≢ low → remembered ws i side ≡ remembered old i side

pub taken_none : (low high : ℕ) (ws : List ℕ) → Taken low high 0 ws ws
taken_none low high ws = record {
  parents = λ i. refl;
  taken = λ side h l. absurd (omega arith);
  rest = λ side h l. refl;
  others = λ i side h n. refl;
}

-- one side more
more_sides : (low high k : ℕ) (old ws new : List ℕ) → Taken low high k old ws →
    ((i : ℕ) → parent new i ≡ parent ws i) →
    (remembered new low k ≡ option_or (remembered old low k) (remembered old high k)) →
    ((side : ℕ) → side < 3 → side ≢ k → remembered new low side ≡ remembered ws low side) →
    ((i side : ℕ) → side < 3 → i ≢ low → remembered new i side ≡ remembered ws i side) →
    Taken low high (k + 1) old new
more_sides low high k old ws new t parents here apart others = record {
  parents = λ i. parents i ∙ t.parents i;
  taken = λ side h l. elim (cases_eq side k) [ inl e ↦ rw e here | inr n ↦ apart side h n ∙ t.taken side h (omega arith) ];
  rest = λ side h l. apart side h (omega arith) ∙ t.rest side h (omega arith);
  others = λ i side h n. others i side h n ∙ t.others i side h n;
}

-- low has a part for the side k
pub taken_had : (low high k d : ℕ) (old ws : List ℕ) → k < 3 → Taken low high k old ws → remembered ws low k ≡ Some d → Taken low high (k + 1) old ws
taken_had low high k d old ws sides t had =
    let own : remembered old low k ≡ Some d = sym (t.rest k sides (omega arith)) ∙ had in
    more_sides low high k old ws ws t (λ i. refl)
    (had ∙ sym (ap (λ (o : Option ℕ). option_or o (remembered old high k)) own))
    (λ side h n. refl)
    (λ i side h n. refl)

-- low has none, and takes that of high
pub taken_copied : (low high k : ℕ) (old ws : List ℕ) → k < 3 → low < high → IsNode ws low → Taken low high k old ws → remembered ws low k ≡ None →
    Taken low high (k + 1) old (set ws (4 * low + 1 + k) (slice_index ws (4 * high + 1 + k)))
taken_copied low high k old ws sides lower node t none =
    let w = slice_index ws (4 * high + 1 + k) in
    let own : remembered old low k ≡ None = sym (t.rest k sides (omega arith)) ∙ none in
    more_sides low high k old ws (set ws (4 * low + 1 + k) w) t (λ i. parent_kept ws low i k w sides)
    (part_copied ws low high k node sides ∙ t.others high k sides (omega arith) ∙ sym (ap (λ (o : Option ℕ). option_or o (remembered old high k)) own))
    (λ side h n. part_elsewhere ws low low k side w sides h (inr n))
    (λ i side h n. part_elsewhere ws low i k side w sides h (inl n))

-- what a root has or takes is a node
or_inside : (low high side c : ℕ) (old : List ℕ) → Rows old → IsNode old high → low < high → side < 3 → (o : Option ℕ) → remembered old low side ≡ o →
    option_or o (remembered old high side) ≡ Some c → IsNode old c
or_inside low high side c old rows node lower h None own e = rows.inside high side c node h e
or_inside low high side c old rows node lower h (Some d) own e = rows.inside low side c (node_below old high low node (omega arith)) h (own ∙ e)

-- at last the parent of high is written
pub links : (low high k : ℕ) (old ws : List ℕ) → Rows old → IsNode old high → low < high → parent old low ≡ low → parent old high ≡ high →
    length ws ≡ length old → 3 ≤ k → Taken low high k old ws → Links low high old (set ws (4 * high) low)
links low high k old ws rows node lower low_root high_root long all t =
    let new = set ws (4 * high) low in
    let same_length : length new ≡ length old = simp length-set long in
    let here : IsNode ws high = omega arith in
    let under : parent new high ≡ low = parent_written ws high low here in
    let elsewhere : (i : ℕ) → i ≢ high → parent new i ≡ parent old i = λ i n. parent_elsewhere ws high i low n ∙ t.parents i in
    let taken : (side : ℕ) → side < 3 → remembered new low side ≡ option_or (remembered old low side) (remembered old high side) =
    λ side h. part_kept ws high low side low h ∙ t.taken side h (omega arith) in
    let others : (i side : ℕ) → side < 3 → i ≢ low → remembered new i side ≡ remembered old i side =
    λ i side h n. part_kept ws high i side low h ∙ t.others i side h n in
    let inside : (i side c : ℕ) → IsNode old i → side < 3 → remembered new i side ≡ Some c → IsNode old c =
    λ i side c p h e. elim (cases_eq i low) [
      | inl o ↦ or_inside low high side c old rows node lower h (remembered old low side) refl (sym (taken side h) ∙ rw o at e)
      | inr n ↦ rows.inside i side c p h (sym (others i side h n) ∙ e)
    ] in
    let lighter = weight_set old new high same_length node elsewhere in
    record {
      rows = record {
        whole = (rows.whole.0, same_length ∙ rows.whole.1);
        low = linked_low old new low high rows.low lower under elsewhere;
        inside = λ i side c p h e. rw same_length (inside i side c (rw same_length at p) h e);
      };
      long = same_length;
      roots = root_linked old new low high rows.low lower low_root high_root under elsewhere;
      taken = taken;
      others = others;
      falls = omega (arith, lighter, under, high_root, lower);
    }
