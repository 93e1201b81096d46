use Rattle.std.proofs.Common.{◌≡◌, List}
use Rattle.tokens.specs.Tokens.{tokens}
use Rattle.notation.specs.Fitting.{leaf_words}
use Rattle.notation.specs.Reading.{ReadAs}
use Rattle.notation.specs.Sweeping.{Overwriting}
use Rattle.notation.proofs.leaf_words.write_leaves.Given as goal

abbrev pub invariant-loop-leaf : goal.invariant-loop-leaf
invariant-loop-leaf g l =
    record {
      text : l.words.text ≡ l.text;
      written : (ls : List g.row.L.Denot) → ReadAs {L = g.row.L.Denot} g.L.Leaf.spells (leaf_words (tokens l.text)) ls → Overwriting {L = g.row.L.Denot} g.L.Leaf.spells ls l.words.left l.fn.leaves l.leaves l.leaf-index;
    }
