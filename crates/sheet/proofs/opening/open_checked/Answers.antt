use Rattle.std.proofs.Common.{refl, sym}
use Rattle.sheet.proofs.Opened.{is_needed}
use Rattle.sheet.proofs.opening.open_checked.Goals as goal

pub returns : goal.returns
returns g c =
    record {
      opened = record {
        valid = c.in_ok-needed.ensures.valid.0 refl;
        room = rw (sym (is_needed c.args.places.now c.args.leaves.now c.in_ok-needed.needed c.in_ok-needed.ensures.value)) c.if-memory-needed.false;
        counted = c.open_memory.ensures.names;
        solved = c.open_memory.ensures.solved;
        copied = c.open_memory.ensures.copied;
        past = c.open_memory.ensures.past;
      };
    }
