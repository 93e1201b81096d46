use Rattle.std.proofs.Common.{refl, length, rules, ap, sym, ◌∙◌, replicate}
use Rattle.notation.specs.Tables.{row}
use Rattle.tokens.specs.Tokens.{tokens}
use Rattle.notation.specs.Progress.{room_for}
use Rattle.notation.specs.Reading.{room}
use Rattle.notation.proofs.TokensShort.{tokens_short}
use Rattle.notation.proofs.Progressing.{progress_none, tabled_along}
use Rattle.notation.proofs.tables.fill_tables.Goals as goal

pub returns : goal.returns
returns c =
    let text = c.args.text.now in
    let lists = c.take_recipes.new.lists in
    let most = room_for (length c.args.places.now) (length c.args.names.now) (length c.args.holes.now) c.args.leaf_room in
    let start = progress_none most (length text) (tokens text) _ (ap room (sym c.clear.auto.places)) (ap room (sym c.clear.auto.names)) (ap room (sym c.clear.auto.holes)) refl (c.clear.ensures.places ∙ ap (λ n. replicate n (row 0 0 0)) (sym c.clear.auto.places)) (c.clear.ensures.names ∙ ap (λ n. replicate n 0) (sym c.clear.auto.names)) (c.clear.ensures.holes ∙ ap (λ n. replicate n 0) (sym c.clear.auto.holes)) refl refl refl refl (tokens_short text) in
    tabled_along
    most
    (length text)
    (tokens text)
    _
    lists.places.now
    _
    lists.names.now
    _
    lists.holes.now
    c.take_recipes.result
    (search rules)
    (search rules)
    (search rules)
    (c.take_recipes.ensures.taken most start)
