use Rattle.std.proofs.Common.{arith}
use Rattle.nodes.proofs.FirstNames.{own_name}
use Rattle.nodes.proofs.names.write_name.Goals as goal

pub returns-clause-own : goal.returns-clause-own
returns-clause-own c =
    let node = c.node_of-node in
    let words = c.name_words-left in
    own_name c.args.words.now c.args.rows.now c.args.names c.args.p c.args.x node.result words.result.0 words.result.1 words.result.2 c.requires.name node.ensures.node (omega arith) words.ensures.left words.ensures.right words.ensures.inside
