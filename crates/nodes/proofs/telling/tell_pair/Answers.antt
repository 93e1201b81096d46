use Rattle.std.proofs.Common.{◌≡◌, Err, [], ◌∷◌, ◌++◌, rules}
use Rattle.nodes.proofs.CausesDecide.{names_decide, none_decides}
use Rattle.nodes.proofs.NamesClassed.{roots_join}
use Rattle.nodes.proofs.telling.tell_pair.Goals as goal

pub tell_places-requires-clause-joined : goal.tell_places-requires-clause-joined
tell_places-requires-clause-joined c = let (told, ready, entered) = c.requires.entered in (_, told, entered.places)

pub decide_places-requires-clause-forest : goal.decide_places-requires-clause-forest
decide_places-requires-clause-forest c = let (told, ready, entered) = c.requires.entered in (c.tell_places.ensures _ told entered.places).0.exact.rows

pub decide_places-requires-clause-joined : goal.decide_places-requires-clause-joined
decide_places-requires-clause-joined c =
    let (told, ready, entered) = c.requires.entered in
    (c.args.names, told ++ ((c.args.p, c.args.q) ∷ []), ready, (c.tell_places.ensures _ told entered.places).0)

pub returns-in_err-decide_places-clause-decided : goal.returns-in_err-decide_places-clause-decided
returns-in_err-decide_places-clause-decided c told ready entered =
    let (places, roots) = c.tell_places.ensures _ told entered.places in
    let is : c.from_residual.result ≡ Err c.in_err-decide_places.field-0.0 = search rules in
    rw is (c.in_err-decide_places.ensures c.args.names (told ++ ((c.args.p, c.args.q) ∷ [])) places roots ready)

pub enter_names-requires-clause-forest : goal.enter_names-requires-clause-forest
enter_names-requires-clause-forest c = let (told, ready, entered) = c.requires.entered in (c.tell_places.ensures _ told entered.places).0.exact.rows

pub enter_names-requires-clause-behind : goal.enter_names-requires-clause-behind
enter_names-requires-clause-behind c =
    let (told, ready, entered) = c.requires.entered in
    (told, (c.tell_places.ensures _ told entered.places).1, entered.names)

pub find_misnamed-requires-clause-forest : goal.find_misnamed-requires-clause-forest
find_misnamed-requires-clause-forest c = let (told, ready, entered) = c.requires.entered in (c.tell_places.ensures _ told entered.places).0.exact.rows

pub find_misnamed-requires-clause-names_forest : goal.find_misnamed-requires-clause-names_forest
find_misnamed-requires-clause-names_forest c =
    let (told, ready, entered) = c.requires.entered in
    let (places, roots) = c.tell_places.ensures _ told entered.places in
    (c.enter_names.ensures told roots entered.names).exact.rows

pub find_misnamed-requires-clause-roots : goal.find_misnamed-requires-clause-roots
find_misnamed-requires-clause-roots c =
    let (told, ready, entered) = c.requires.entered in
    let (places, roots) = c.tell_places.ensures _ told entered.places in
    let joined = roots_join _ c.args.names (told ++ ((c.args.p, c.args.q) ∷ [])) ready c.enter_names.new.names_rows (c.enter_names.ensures told roots entered.names) in
    (told ++ ((c.args.p, c.args.q) ∷ []), ready, roots, joined)

pub returns-in-Some-clause-decided : goal.returns-in-Some-clause-decided
returns-in-Some-clause-decided c told ready entered =
    let (places, roots) = c.tell_places.ensures _ told entered.places in
    let joined = roots_join _ c.args.names (told ++ ((c.args.p, c.args.q) ∷ [])) ready c.enter_names.new.names_rows (c.enter_names.ensures told roots entered.names) in
    let (apart, acyclic) = c.in_ok-decide_places.ensures c.args.names (told ++ ((c.args.p, c.args.q) ∷ [])) places roots in
    names_decide ready c.in-Some.place c.requires.holes apart acyclic (c.in-Some.ensures (told ++ ((c.args.p, c.args.q) ∷ [])) ready roots joined)

pub returns-in-None-clause-decided : goal.returns-in-None-clause-decided
returns-in-None-clause-decided c told ready entered =
    let (places, roots) = c.tell_places.ensures _ told entered.places in
    let joined = roots_join _ c.args.names (told ++ ((c.args.p, c.args.q) ∷ [])) ready c.enter_names.new.names_rows (c.enter_names.ensures told roots entered.names) in
    let (apart, acyclic) = c.in_ok-decide_places.ensures c.args.names (told ++ ((c.args.p, c.args.q) ∷ [])) places roots in
    none_decides ready apart acyclic (c.in-None.ensures (told ++ ((c.args.p, c.args.q) ∷ [])) ready roots joined)

pub returns-in-None-clause-entered : goal.returns-in-None-clause-entered
returns-in-None-clause-entered c told entered ok =
    let (places, roots) = c.tell_places.ensures _ told entered.places in
    record { places = places; names = c.enter_names.ensures told roots entered.names }
