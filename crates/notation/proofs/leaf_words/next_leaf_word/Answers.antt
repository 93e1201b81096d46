use Rattle.std.proofs.Common.{◌≡◌, ◌∙◌, suc, length, ap, arith}
use Rattle.tokens.specs.Pieces.{token_of}
use Rattle.tokens.specs.declared.classes.Class.{Class}
use Rattle.notation.proofs.Classes.{other_class}
use Rattle.notation.proofs.Sweeps.{skipped_more}
use Rattle.notation.proofs.leaf_words.next_leaf_word.Goals as goal

pub loop-piece-preserved : goal.loop-piece-preserved
loop-piece-preserved c =
    let left = c.loop-piece.words.left in
    let r = c.next.new.self.left in
    let first = c.in-Some.ensures.token in
    let more : length left ≡ suc (length r) = ap (λ q. length q) first in
    let few = c.loop-piece.invariant.fewer in
    record {
      text = c.next.ensures.text ∙ c.loop-piece.invariant.text;
      fewer = omega arith;
      skipped = skipped_more _ left r (token_of c.loop-piece.words.text c.in-Some.piece) c.loop-piece.invariant.skipped first (other_class c.in-Some.piece.class Class.Leaf c.if-eq.ensures);
    }
