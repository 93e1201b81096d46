use Rattle.std.proofs.Common.{refl}
use Rattle.nodes.proofs.CausesDecide.{clash_decides, cycle_decides}
use Rattle.nodes.proofs.ClashesFound.{form_past}
use Rattle.nodes.proofs.telling.decide_places.Goals as goal

pub find_clash-requires-clause-joined : goal.find_clash-requires-clause-joined
find_clash-requires-clause-joined c = let (m, told, ready, joined) = c.requires.joined in (told, joined)

pub find_cycle-requires-clause-joined : goal.find_cycle-requires-clause-joined
find_cycle-requires-clause-joined c =
    let (m, told, ready, joined) = c.requires.joined in
    (_, told, refl, form_past c.args.size c.args.words.now, joined)

pub returns-in-Some : goal.returns-in-Some
returns-in-Some c m told joined roots ready = clash_decides ready c.in-Some.place c.in-Some.partner (c.in-Some.ensures told joined roots)

pub returns-in-Some-find_cycle : goal.returns-in-Some-find_cycle
returns-in-Some-find_cycle c m told joined roots ready =
    cycle_decides ready c.in-Some-find_cycle.place (c.in_default.ensures told joined roots) (c.in-Some-find_cycle.ensures _ told refl (form_past c.args.size c.args.words.now) joined roots)

pub returns-in-None : goal.returns-in-None
returns-in-None c m told joined roots = (c.in_default.ensures told joined roots, c.in-None.ensures _ told refl (form_past c.args.size c.args.words.now) joined roots)
