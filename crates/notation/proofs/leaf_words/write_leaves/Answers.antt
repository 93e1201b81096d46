use Rattle.std.proofs.Common.{◌<◌, ◌∙◌, length, sym, arith}
use Rattle.std.proofs.lemmas.List.{set-get_or}
use Rattle.notation.proofs.Sweeps.{overwriting_all, overwriting_unread, overwriting_more}
use Rattle.notation.proofs.Texts.{leaf_of}
use Rattle.notation.proofs.leaf_words.write_leaves.Goals as goal

pub returns-in_default : goal.returns-in_default
returns-in_default g c = λ ls reads few.
    set-get_or c.loop-leaf.leaves c.loop-leaf.leaf-index c.leaf-item.result
    ∙ overwriting_all g.L.Leaf.spells ls c.loop-leaf.words.left c.args.leaves.now c.loop-leaf.leaves c.loop-leaf.leaf-index (c.loop-leaf.invariant.written ls reads) c.in_default.ensures.next

pub returns-in-None : goal.returns-in-None
returns-in-None g c = λ ls reads few.
    absurd (overwriting_unread g.L.Leaf.spells ls c.loop-leaf.words.left c.args.leaves.now c.loop-leaf.leaves c.loop-leaf.leaf-index (c.loop-leaf.invariant.written ls reads) c.args.text.now c.next_leaf_word.new.words.left c.in-Some.piece (leaf_of c.loop-leaf.invariant.text c.in-Some.ensures.next) (sym c.in-None.ensures))

pub loop-leaf-preserved : goal.loop-leaf-preserved
loop-leaf-preserved g c =
    let long = c.loop-leaf.auto.leaves in
    let inside = c.loop-leaf-test.true in
    let below : c.loop-leaf.leaf-index < length c.args.leaves.now = omega arith in
    record {
      text = c.next_leaf_word.ensures.text ∙ c.loop-leaf.invariant.text;
      written =
          λ ls reads.
          overwriting_more g.L.Leaf.spells ls c.loop-leaf.words.left c.args.leaves.now c.loop-leaf.leaves c.loop-leaf.leaf-index (c.loop-leaf.invariant.written ls reads) c.args.text.now c.next_leaf_word.new.words.left c.in-Some.piece (leaf_of c.loop-leaf.invariant.text c.in-Some.ensures.next) c.in-Some-read.read (sym c.in-Some-read.ensures) below;
    }
