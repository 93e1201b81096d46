use Rattle.std.proofs.Common.{◌≡◌, suc, ◌*◌, arith}
use Rattle.std.proofs.Math.Nat.{mul_comm}
use Rattle.nodes.specs.NameRows.{OwnNames}
use Rattle.nodes.proofs.FirstNames.{names_exact}
use Rattle.nodes.proofs.FirstRows.{parts_few}
use Rattle.nodes.proofs.names.init_names.Goals as goal

pub write_names-requires-clause-few_parts : goal.write_names-requires-clause-few_parts
write_names-requires-clause-few_parts c = parts_few c.args.size c.args.words.now c.requires.ordered c.loop-p.p c.loop-p-test.true c.requires.few_places

pub returns : goal.returns
returns c =
    let at_end : c.loop-p.p ≡ c.args.size = omega arith in
    let own : OwnNames c.args.words.now c.args.names c.loop-p.rows (suc (c.args.size * c.args.names)) = rw at_end at c.loop-p.invariant in
    names_exact c.args.size c.args.names c.args.words.now c.requires.ordered c.loop-p.rows (omega arith) (rw (mul_comm c.args.size c.args.names) at own)
