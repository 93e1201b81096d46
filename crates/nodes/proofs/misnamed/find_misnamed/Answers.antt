use Rattle.nodes.proofs.MisnamedFound.{misnamed_found, names_below}
use Rattle.nodes.proofs.misnamed.find_misnamed.Goals as goal

pub search_misnamed-requires-clause-named : goal.search_misnamed-requires-clause-named
search_misnamed-requires-clause-named c = names_below c.args.size c.args.names c.args.words.now c.requires.named

pub returns : goal.returns
returns c told formed roots joins =
    misnamed_found c.args.size c.args.names c.args.words.now c.args.rows.now c.args.names_rows.now told formed roots joins c.search_misnamed.result c.search_misnamed.ensures
