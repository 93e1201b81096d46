use Rattle.std.proofs.Common.{◌≡◌, ◌≤◌, ◌<◌, ◌^◌, length, arith, sym, ◌∙◌, min, nat_eq}
use Rattle.std.proofs.Math.ListN.{length-set}
use Rattle.notation.proofs.Numbering.{index_within, found, full, next}
use Rattle.notation.proofs.numbers.number_of.Goals as goal

pub returns-then-number-count-clause-numbered : goal.returns-then-number-count-clause-numbered
returns-then-number-count-clause-numbered c = λ most ns w listing s e.
    found most ns w c.args.list.now c.args.count.now c.args.spelling listing s e c.position-number.result c.position-number.ensures c.if-number-count.true

pub returns-then-number-room-clause-numbered : goal.returns-then-number-room-clause-numbered
returns-then-number-room-clause-numbered c = λ most ns w listing s e.
    full most ns w c.args.list.now c.args.count.now c.args.spelling listing s e c.position-number.result c.position-number.ensures c.if-number-count.false (c.if-number-room.true ∙ c.room.ensures)

pub returns-clause-numbered : goal.returns-clause-numbered
returns-clause-numbered c = λ most ns w listing s e.
    next most ns w c.args.list.now c.args.count.now c.args.spelling listing s e c.position-number.result c.position-number.ensures c.if-number-count.false (λ h. c.if-number-room.false (h ∙ sym c.room.ensures))

pub bounds-list-number : goal.bounds-list-number
bounds-list-number c =
    let within = index_within c.position-number.result c.args.count.now (λ n. nat_eq n c.args.spelling) c.args.list.now c.position-number.ensures in
    let e : c.room.result ≡ min (length c.args.list.now) (2 ^ 32) = c.room.ensures in
    let few : c.args.count.now ≤ min (length c.args.list.now) (2 ^ 32) = c.requires in
    omega (arith, within)

pub offset_bounds-list-number : goal.offset_bounds-list-number
offset_bounds-list-number c =
    let within = index_within c.position-number.result c.args.count.now (λ n. nat_eq n c.args.spelling) c.args.list.now c.position-number.ensures in
    let few : c.args.count.now ≤ min (length c.args.list.now) (2 ^ 32) = c.requires in
    let k : c.position-number.result ≤ 2 ^ 32 = omega (arith, within) in
    omega arith

pub overflow_cast-result-2 : goal.overflow_cast-result-2
overflow_cast-result-2 c =
    let within = index_within c.position-number.result c.args.count.now (λ n. nat_eq n c.args.spelling) c.args.list.now c.position-number.ensures in
    let e : c.room.result ≡ min (length c.args.list.now) (2 ^ 32) = c.room.ensures in
    let few : c.args.count.now ≤ min (length c.args.list.now) (2 ^ 32) = c.requires in
    let k : c.position-number.result < 2 ^ 32 = omega (arith, within) in
    omega arith

pub returns-clause-few : goal.returns-clause-few
returns-clause-few c =
    let within = index_within c.position-number.result c.args.count.now (λ n. nat_eq n c.args.spelling) c.args.list.now c.position-number.ensures in
    let e : c.room.result ≡ min (length c.args.list.now) (2 ^ 32) = c.room.ensures in
    let few : c.args.count.now ≤ min (length c.args.list.now) (2 ^ 32) = c.requires in
    omega (arith, within, length-set c.args.list.now c.position-number.result c.args.spelling)
