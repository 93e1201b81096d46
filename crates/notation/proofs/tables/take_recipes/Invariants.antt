use Rattle.std.proofs.Common.{◌≡◌, length}
use Rattle.tokens.specs.Tokens.{tokens}
use Rattle.notation.specs.LentLists.{Stays}
use Rattle.notation.specs.Fitting.{Room}
use Rattle.notation.specs.Progress.{Progress}
use Rattle.notation.proofs.tables.take_recipes.Given as goal

abbrev pub invariant-loop-first : goal.invariant-loop-first
invariant-loop-first l =
    record {
      text : l.words.text ≡ l.text;
      stays : Stays l.initial.lists l.lists;
      progress : (most : Room) → Progress most (length l.text) (tokens l.text) (tokens l.text) l.initial.lists → Progress most (length l.text) (tokens l.text) l.words.left l.lists;
    }

abbrev pub decreases-loop-first : goal.decreases-loop-first
decreases-loop-first l = length l.words.left
