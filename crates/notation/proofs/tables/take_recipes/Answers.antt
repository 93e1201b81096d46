use Rattle.std.proofs.Common.{◌≤◌, ◌∷◌, ◌∙◌, length, ap, subst, Ok, Err, arith}
use Rattle.std.proofs.lemmas.Result.{err_from_is_err_and}
use Rattle.tokens.specs.Tokens.{tokens}
use Rattle.tokens.specs.Pieces.{token_of}
use Rattle.notation.specs.Machine.{unused}
use Rattle.notation.specs.Threading.{used_by_all}
use Rattle.notation.specs.Taking.{AllShort}
use Rattle.notation.proofs.Staying.{stays_then}
use Rattle.notation.proofs.Progressing.{progress_halts, progress_more, progress_ends}
use Rattle.notation.proofs.Texts.{recipe_of}
use Rattle.notation.proofs.tables.take_recipes.Goals as goal

pub loop-first-preserved : goal.loop-first-preserved
loop-first-preserved c =
    let text = c.args.text.now in
    let piece = c.in-Some.first in
    let w = c.next.new.self.left in
    let first = c.in-Some.ensures.token ∙ ap (λ t. token_of t piece ∷ w) c.loop-first.invariant.text in
    let same = c.next.ensures.text ∙ c.loop-first.invariant.text in
    record {
      text = c.in_ok-recipe.ensures.text ∙ same;
      stays = stays_then c.loop-first.invariant.stays c.in_ok-recipe.ensures.stays;
      progress =
          λ most start.
          let P = c.loop-first.invariant.progress most start in
          let shallow : 0 ≤ 128 = omega arith in
          let R = recipe_of same 0 piece w c.recipe.new.words.left c.loop-first.lists c.recipe.new.lists (Ok c.in_ok-recipe.field-0) c.in_ok-recipe.ensures.taken most (used_by_all unused P.trees) shallow P.stands (subst AllShort first P.short) in
          progress_more most (length text) (tokens text) c.loop-first.words.left c.loop-first.lists P (token_of text piece) w first c.recipe.new.words.left c.recipe.new.lists c.in_ok-recipe.field-0 c.in_ok-recipe.ensures.stays.places_long R;
    }

pub returns-in_err-recipe-clause-taken : goal.returns-in_err-recipe-clause-taken
returns-in_err-recipe-clause-taken c = λ most start.
    let p = err_from_is_err_and c.from_residual.result c.from_residual.ensures.1 in
    let text = c.args.text.now in
    let piece = c.in-Some.first in
    let w = c.next.new.self.left in
    let first = c.in-Some.ensures.token ∙ ap (λ t. token_of t piece ∷ w) c.loop-first.invariant.text in
    let same = c.next.ensures.text ∙ c.loop-first.invariant.text in
    let P = c.loop-first.invariant.progress most start in
    let shallow : 0 ≤ 128 = omega arith in
    let why = recipe_of same 0 piece w c.recipe.new.words.left c.loop-first.lists c.recipe.new.lists (Err _) c.in_err-recipe.ensures.taken most (used_by_all unused P.trees) shallow P.stands (subst AllShort first P.short) in
    rw (p.1, p.2) (progress_halts most (length text) (tokens text) c.loop-first.words.left c.loop-first.lists P (token_of text piece) w first _ why)

pub returns-clause-taken : goal.returns-clause-taken
returns-clause-taken c = λ most start.
    let text = c.args.text.now in
    progress_ends most (length text) (tokens text) c.loop-first.words.left c.loop-first.lists (c.loop-first.invariant.progress most start) c.in_default.ensures.token
