-- A forest whose nodes are their own parents and remember their own parts is exact for no pairs, whatever the parts. Assumes nothing.
use Rattle.std.proofs.Common.{◌≡◌, ℕ, ◌+◌, ◌*◌, ◌<◌, ◌≤◌, List, [], length, Some, refl, sym, ap, ◌∙◌, inl, inr, arith}
use Rattle.std.proofs.lemmas.Bool.{cases_lt}
use Rattle.std.proofs.lemmas.List.{get_or_past}
use Rattle.closure.specs.Closures.{Closure}
use Rattle.forest.specs.Exact.{Exact, Joined, Parts}
use Rattle.forest.specs.Rows.{IsNode, node_or_none, parent, remembered, root}
use Rattle.forest.proofs.Roots.{fixed_root}
use Rattle.nodes.specs.Starting.{OwnParts, SameBelow}

-- a node that is below the written row
pub own_below : (sub : Parts) (old new : List ℕ) (p i : ℕ) → i < p → SameBelow p old new → OwnParts sub old i → OwnParts sub new i
own_below sub old new p i low same row = record {
  own = same (4 * i) (omega arith) ∙ row.own;
  parts = λ side h. ap node_or_none (same (4 * i + 1 + side) (omega arith)) ∙ row.parts side h;
}

-- no pairs join no two nodes
joined_none : (sub : Parts) {u v : ℕ} → Joined sub [] u v → u ≡ v
joined_none sub Closure.itself = refl
joined_none sub (Closure.back j) = sym (joined_none sub j)
joined_none sub (Closure.chain j k) = joined_none sub j ∙ joined_none sub k
joined_none sub (Closure.held i) = absurd i
joined_none sub (Closure.part j p q) = let e = joined_none sub j in let f = p.1 in let g = q.1 in let h = rw e at f in cc

module _ (sub : Parts) (n : ℕ) (inside : (i side c : ℕ) → i < n → side < 3 → sub i side ≡ Some c → c < n) (rows : List ℕ) (long : length rows ≡ 4 * n) (own : (i : ℕ) → i < n → OwnParts sub rows i) where
  low_parent : (i : ℕ) → parent rows i ≤ i
  low_parent i = elim (cases_lt i n) [
    | inl h ↦ let e = (own i h).own in omega arith
    | inr past ↦ let e : parent rows i ≡ 0 = get_or_past rows (4 * i) 0 (omega arith) in omega arith
  ]

  own_root : (i : ℕ) → IsNode rows i → root rows i ≡ i
  own_root i node = fixed_root rows i (own i (omega arith)).own

  own_part : (i side : ℕ) → IsNode rows i → side < 3 → remembered rows i side ≡ sub i side
  own_part i side node h = (own i (omega arith)).parts side h

  part_node : (i side c : ℕ) → IsNode rows i → side < 3 → sub i side ≡ Some c → IsNode rows c
  part_node i side c node h e = let below = inside i side c (omega arith) h e in omega arith

  pub own_exact : Exact sub [] rows
  own_exact = record {
    rows = record {
      whole = (n, long);
      low = low_parent;
      inside = λ i side c node h e. part_node i side c node h (sym (own_part i side node h) ∙ e);
    };
    nodes = part_node;
    told = λ u v i. absurd i;
    classes = λ u v first second. (
      λ e. let same = sym (own_root u first) ∙ e ∙ own_root v second in rw same Closure.itself,
      λ j. let same = joined_none sub j in ap (root rows) same,
    );
    some = λ i side c node h e. (c, rw (own_root i node) (own_part i side node h ∙ e));
    of_class = λ r side d node h fixed e. (r, node, own_root r node, sym (own_part r side node h) ∙ e);
  }
