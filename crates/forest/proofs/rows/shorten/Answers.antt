use Rattle.std.proofs.Common.{◌≡◌, ◌≢◌, ℕ, ◌*◌, List, length, set, sym, ◌∙◌, inl, inr, arith, length-set}
use Rattle.std.proofs.lemmas.Bool.{cases_eq}
use Rattle.forest.proofs.Roots.{Low, parent_elsewhere, parent_written, part_kept, root_parent, same_roots, weight_set}
use Rattle.forest.specs.Rows.{IsNode, Rows, SameForest, parent, root}
use Rattle.forest.proofs.rows.shorten.Goals as goal

-- the parent of a node becomes the parent of its parent
module _ (ws : List ℕ) (i : ℕ) (rows : Rows ws) (node : IsNode ws i) where
  new : List ℕ
  new = set ws (4 * i) (parent ws (parent ws i))

  long : length new ≡ length ws
  unfolding new
  long = length-set ws (4 * i) (parent ws (parent ws i))

  at_node : parent new i ≡ parent ws (parent ws i)
  unfolding new
  at_node = parent_written ws i (parent ws (parent ws i)) node

  elsewhere : (j : ℕ) → j ≢ i → parent new j ≡ parent ws j
  unfolding new
  elsewhere j ne = parent_elsewhere ws i j (parent ws (parent ws i)) ne

  low : Low new
  low j = elim (cases_eq j i) [
    | inl e ↦ rw (e, at_node) (omega (arith, rows.low i, rows.low (parent ws i)))
    | inr ne ↦ rw (elsewhere j ne) (rows.low j)
  ]

  along : (j : ℕ) → root ws (parent new j) ≡ root ws j
  along j = elim (cases_eq j i) [
    | inl e ↦ rw (e, at_node) (root_parent ws (parent ws i) rows.low ∙ root_parent ws i rows.low)
    | inr ne ↦ rw (elsewhere j ne) (root_parent ws j rows.low)
  ]

  fixed : (j : ℕ) → parent new j ≡ j → parent ws j ≡ j
  fixed j same = elim (cases_eq j i) [
    | inl e ↦ rw e (let here : parent new i ≡ i = rw e at same in omega (arith, here, at_node, rows.low i, rows.low (parent ws i)))
    | inr ne ↦ sym (elsewhere j ne) ∙ same
  ]

  shorter : SameForest ws new
  unfolding new
  shorter = record {
    rows = record {
      whole = (rows.whole.0, long ∙ rows.whole.1);
      low = low;
      inside = λ j side c is sides part. rw long (rows.inside j side c (rw long at is) sides (sym (part_kept ws i j side (parent ws (parent ws i)) sides) ∙ part));
    };
    long = long;
    lighter = omega (arith, weight_set ws new i long node elsewhere, at_node, rows.low (parent ws i));
    roots = same_roots ws new rows.low low along fixed;
    parts = λ j side sides. part_kept ws i j side (parent ws (parent ws i)) sides;
  }

then_same : (old between new : List ℕ) → SameForest old between → SameForest between new → SameForest old new
then_same old between new first second = record {
  rows = second.rows;
  long = second.long ∙ first.long;
  lighter = omega arith;
  roots = λ i. second.roots i ∙ first.roots i;
  parts = λ i side sides. second.parts i side sides ∙ first.parts i side sides;
}

pub loop-node-preserved : goal.loop-node-preserved
unfolding new
loop-node-preserved c =
    let rows : Rows c.loop-node.rows = c.loop-node.invariant.same.rows in
    let node : IsNode c.loop-node.rows c.loop-node.node = omega arith in
    rw c.parent_of-in-loop-node.ensures (record {
      within = omega (arith, rows.low c.loop-node.node, rows.low (parent c.loop-node.rows c.loop-node.node));
      same = then_same c.args.rows.now c.loop-node.rows (new c.loop-node.rows c.loop-node.node rows node) c.loop-node.invariant.same (shorter c.loop-node.rows c.loop-node.node rows node);
    })
