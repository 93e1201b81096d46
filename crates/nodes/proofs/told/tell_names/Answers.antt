use Rattle.std.proofs.Common.{◌++◌}
use Rattle.nodes.specs.Records.{written}
use Rattle.nodes.proofs.NamesTold.{said_both}
use Rattle.nodes.proofs.told.tell_names.Goals as goal

pub hide_unmatched-requires-clause-exact : goal.hide_unmatched-requires-clause-exact
hide_unmatched-requires-clause-exact c =
    let (sub, pairs, exact) = c.requires.exact in
    let one = c.join_equal.ensures in (sub, one.pairs ++ pairs, one.more sub pairs exact)

pub returns : goal.returns
returns c = said_both (written c.args.size c.args.words.now) c.args.names c.args.p c.args.q c.join_equal.ensures c.hide_unmatched.ensures
