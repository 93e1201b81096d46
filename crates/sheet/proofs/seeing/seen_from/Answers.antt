use Rattle.sheet.proofs.WalksFound.{seen_none, seen_same, seen_some}
use Rattle.sheet.proofs.seeing.seen_from.Goals as goal

pub returns-in-Some-joined_name : goal.returns-in-Some-joined_name
returns-in-Some-joined_name c told solved seen w = seen_some solved.ready c.in-Some-joined_name.y c.in-Some.ensures (c.in-Some-joined_name.ensures told solved)

pub returns-in-None-joined_name : goal.returns-in-None-joined_name
returns-in-None-joined_name c told solved seen w =
    absurd (seen_none solved.ready w c.in-Some.ensures (c.requires.name c.in-Some.x c.in-Some.ensures) (c.in-None-joined_name.ensures told solved))

pub returns-in-None : goal.returns-in-None
returns-in-None c told solved seen w = seen_same c.in-None.ensures
