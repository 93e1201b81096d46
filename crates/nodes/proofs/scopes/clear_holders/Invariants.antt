use Rattle.std.proofs.Common.{◌≡◌, ℕ, ◌<◌, None}
use Rattle.nodes.specs.HoldersWritten.{HolderWord, SameForms, written_holder}
use Rattle.nodes.specs.Records.{ChangesOnly}
use Rattle.nodes.proofs.scopes.clear_holders.Given as goal

abbrev pub invariant-loop-p : goal.invariant-loop-p
invariant-loop-p l = record {
  only : ChangesOnly (HolderWord l.size) l.fn.words l.words;
  none : (k : ℕ) → k < l.p → written_holder l.words k ≡ None;
  forms : SameForms l.fn.words l.words;
}
