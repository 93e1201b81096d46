use Rattle.std.proofs.Common.{◌∙◌, sym}
use Rattle.tokens.specs.Tokens.{tokens}
use Rattle.notation.proofs.Sweeps.{swept_none, swept_more, swept_unread}
use Rattle.notation.proofs.Texts.{leaf_of}
use Rattle.notation.proofs.leaf_words.first_unread.Goals as goal

pub loop-piece-init : goal.loop-piece-init
loop-piece-init g c =
    record {
      text = c.new-words.ensures.text;
      swept = rw c.new-words.ensures.left (swept_none g.L.Leaf.spells (tokens c.args.text.now));
    }

pub loop-piece-preserved : goal.loop-piece-preserved
loop-piece-preserved g c =
    record {
      text = c.next_leaf_word.ensures.text ∙ c.loop-piece.invariant.text;
      swept = swept_more g.L.Leaf.spells (tokens c.args.text.now) c.args.text.now c.loop-piece.words.left c.next_leaf_word.new.words.left c.in-Some.piece c.loop-piece.invariant.swept (leaf_of c.loop-piece.invariant.text c.in-Some.ensures.next) c.in-Some-read.field-0 (sym c.in-Some-read.ensures);
    }

pub returns-in-None : goal.returns-in-None
returns-in-None g c =
    swept_unread g.L.Leaf.spells (tokens c.args.text.now) c.args.text.now c.loop-piece.words.left c.next_leaf_word.new.words.left c.in-Some.piece c.loop-piece.invariant.swept (leaf_of c.loop-piece.invariant.text c.in-Some.ensures.next) (sym c.in-None.ensures)
