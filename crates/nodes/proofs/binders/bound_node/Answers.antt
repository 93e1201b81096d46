use Rattle.std.proofs.Common.{◌≡◌, ◌*◌, slice_index, sym}
use Rattle.nodes.proofs.BindersTied.{bind_written}
use Rattle.nodes.proofs.binders.bound_node.Goals as goal

pub node_of-requires-clause-low : goal.node_of-requires-clause-low
node_of-requires-clause-low c =
    let kind : slice_index c.args.words.now (8 * c.args.p) ≡ 4 = sym (rw c.in-Ok-Bind.field-0-is at c.in-Ok-Bind.ensures) in
    (c.requires.bind _ _ (bind_written c.args.words.now c.args.p kind)).1

pub node_of-requires-clause-name : goal.node_of-requires-clause-name
node_of-requires-clause-name c =
    let kind : slice_index c.args.words.now (8 * c.args.p) ≡ 4 = sym (rw c.in-Ok-Bind.field-0-is at c.in-Ok-Bind.ensures) in
    (c.requires.bind _ _ (bind_written c.args.words.now c.args.p kind)).0
