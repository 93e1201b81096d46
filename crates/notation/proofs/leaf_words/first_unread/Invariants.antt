use Rattle.std.proofs.Common.{◌≡◌, length}
use Rattle.tokens.specs.Tokens.{tokens}
use Rattle.notation.specs.Sweeping.{Swept}
use Rattle.notation.proofs.leaf_words.first_unread.Given as goal

abbrev pub invariant-loop-piece : goal.invariant-loop-piece
invariant-loop-piece g l =
    record {
      text : l.words.text ≡ l.text;
      swept : Swept g.L.Leaf.spells (tokens l.text) l.words.left;
    }

abbrev pub decreases-loop-piece : goal.decreases-loop-piece
decreases-loop-piece g l = length l.words.left
