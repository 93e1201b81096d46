use Rattle.std.proofs.Common.{◌≡◌, ◌≤◌, length}
use Rattle.notation.specs.Sweeping.{Skipped}
use Rattle.notation.proofs.leaf_words.next_leaf_word.Given as goal

abbrev pub invariant-loop-piece : goal.invariant-loop-piece
invariant-loop-piece l =
    record {
      text : l.words.text ≡ l.initial.words.text;
      fewer : length l.words.left ≤ length l.initial.words.left;
      skipped : Skipped l.initial.words.left l.words.left;
    }

abbrev pub decreases-loop-piece : goal.decreases-loop-piece
decreases-loop-piece l = length l.words.left
