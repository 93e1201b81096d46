use Rattle.nodes.proofs.telling.enter_pair.Goals as goal

pub tell_places-requires-clause-joined : goal.tell_places-requires-clause-joined
tell_places-requires-clause-joined c = let (told, entered) = c.requires.entered in (_, told, entered.places)

pub enter_names-requires-clause-forest : goal.enter_names-requires-clause-forest
enter_names-requires-clause-forest c = let (told, entered) = c.requires.entered in (c.tell_places.ensures _ told entered.places).0.exact.rows

pub enter_names-requires-clause-behind : goal.enter_names-requires-clause-behind
enter_names-requires-clause-behind c =
    let (told, entered) = c.requires.entered in
    (told, (c.tell_places.ensures _ told entered.places).1, entered.names)

pub returns : goal.returns
returns c told entered =
    let (places, roots) = c.tell_places.ensures _ told entered.places in
    record { places = places; names = c.enter_names.ensures told roots entered.names }
