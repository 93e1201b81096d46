use Rattle.std.proofs.Common.{◌∙◌, arith, refl}
use Rattle.sheet.proofs.Solving.{decided_whole, cut_of, slices_ready, slices_solved, past_again, records_again, solved_again}
use Rattle.sheet.proofs.telling.decide_pair.Goals as goal

pub decide_slices-requires-clause-hold : goal.decide_slices-requires-clause-hold
decide_slices-requires-clause-hold c =
    let (told, is, solved) = c.requires.solved in
    let parts = cut_of c.split_at_mut-front.ensures.value c.split_at_mut-first.ensures.value c.split_at_mut-second.ensures.value (c.split_at_mut-front.ensures.front_len ∙ c.forests_start.ensures) (c.split_at_mut-first.ensures.front_len ∙ c.forests_length.ensures) (c.split_at_mut-second.ensures.front_len ∙ c.forests_length-2.ensures) in (
      told,
      is,
      slices_ready parts c.args.p c.args.q c.requires.places.0 c.requires.places.1 c.requires.depths solved,
      slices_solved parts (omega (arith, c.requires.places.0)) solved,
    )

pub returns-clause-decided : goal.returns-clause-decided
returns-clause-decided c told is solved =
    decided_whole (cut_of c.split_at_mut-front.ensures.value c.split_at_mut-first.ensures.value c.split_at_mut-second.ensures.value (c.split_at_mut-front.ensures.front_len ∙ c.forests_start.ensures) (c.split_at_mut-first.ensures.front_len ∙ c.forests_length.ensures) (c.split_at_mut-second.ensures.front_len ∙ c.forests_length-2.ensures)) c.args.p c.args.q c.requires.places.0 c.requires.places.1 c.requires.depths solved c.decide_slices.result (c.decide_slices.ensures.decided told)

pub returns-clause-solved : goal.returns-clause-solved
returns-clause-solved c told is solved =
    let old = (cut_of c.split_at_mut-front.ensures.value c.split_at_mut-first.ensures.value c.split_at_mut-second.ensures.value (c.split_at_mut-front.ensures.front_len ∙ c.forests_start.ensures) (c.split_at_mut-first.ensures.front_len ∙ c.forests_length.ensures) (c.split_at_mut-second.ensures.front_len ∙ c.forests_length-2.ensures)) in
    let decided = decided_whole old c.args.p c.args.q c.requires.places.0 c.requires.places.1 c.requires.depths solved c.decide_slices.result (c.decide_slices.ensures.decided told) in
    let hold = c.decide_slices.ensures.hold told is (slices_solved old (omega (arith, c.requires.places.0)) solved) in
    solved_again old (cut_of refl refl refl (c.decide_slices.auto.front ∙ c.split_at_mut-front.ensures.front_len ∙ c.forests_start.ensures) (c.decide_slices.auto.first ∙ c.split_at_mut-first.ensures.front_len ∙ c.forests_length.ensures) (c.decide_slices.auto.second ∙ c.split_at_mut-second.ensures.front_len ∙ c.forests_length-2.ensures)) c.decide_slices.ensures.records told c.args.p c.args.q c.requires.places.0 c.requires.places.1 c.requires.depths (rw is c.requires.few) c.decide_slices.result solved decided hold

pub returns-clause-records : goal.returns-clause-records
returns-clause-records c = records_again (cut_of c.split_at_mut-front.ensures.value c.split_at_mut-first.ensures.value c.split_at_mut-second.ensures.value (c.split_at_mut-front.ensures.front_len ∙ c.forests_start.ensures) (c.split_at_mut-first.ensures.front_len ∙ c.forests_length.ensures) (c.split_at_mut-second.ensures.front_len ∙ c.forests_length-2.ensures)) (cut_of refl refl refl (c.decide_slices.auto.front ∙ c.split_at_mut-front.ensures.front_len ∙ c.forests_start.ensures) (c.decide_slices.auto.first ∙ c.split_at_mut-first.ensures.front_len ∙ c.forests_length.ensures) (c.decide_slices.auto.second ∙ c.split_at_mut-second.ensures.front_len ∙ c.forests_length-2.ensures)) c.decide_slices.ensures.records

pub returns-clause-past : goal.returns-clause-past
returns-clause-past c = past_again (cut_of c.split_at_mut-front.ensures.value c.split_at_mut-first.ensures.value c.split_at_mut-second.ensures.value (c.split_at_mut-front.ensures.front_len ∙ c.forests_start.ensures) (c.split_at_mut-first.ensures.front_len ∙ c.forests_length.ensures) (c.split_at_mut-second.ensures.front_len ∙ c.forests_length-2.ensures)) (cut_of refl refl refl (c.decide_slices.auto.front ∙ c.split_at_mut-front.ensures.front_len ∙ c.forests_start.ensures) (c.decide_slices.auto.first ∙ c.split_at_mut-first.ensures.front_len ∙ c.forests_length.ensures) (c.decide_slices.auto.second ∙ c.split_at_mut-second.ensures.front_len ∙ c.forests_length-2.ensures)) c.decide_slices.ensures.records
