-- What is taken off a text is taken off an equal one. Assumes nothing.
use Rattle.std.proofs.Common.{◌≡◌, ℕ, List, length, subst, Result}
use Rattle.recipe.specs.declared.places.Place.{Place}
use Rattle.recipe.specs.declared.refusals.Refusal.{Refusal}
use Rattle.tokens.specs.Tokens.{Token}
use Rattle.tokens.specs.declared.classes.Class.{Class}
use Rattle.tokens.specs.declared.words.Piece.{Piece}
use Rattle.notation.specs.declared.lent_lists.LentLists.{LentLists}
use Rattle.notation.specs.Fitting.{Room}
use Rattle.notation.specs.Machine.{Awaited, Used, Stops}
use Rattle.notation.specs.Sweeping.{NextLeaf}
use Rattle.notation.specs.Taking.{TookPiece, TookBinder, TakesRecipe, Unexpected}

module _ {a b : List ℕ} (e : a ≡ b) where
  pub piece_of : {s r : List Token} {piece : Piece} → TookPiece a s r piece → TookPiece b s r piece
  piece_of {s} {r} {piece} h = subst (λ t. TookPiece t s r piece) e h

  pub unexpected_of : {class : Class} {s : List Token} {why : Refusal} → Unexpected (length a) class s why → Unexpected (length b) class s why
  unexpected_of {class} {s} {why} h = subst (λ t. Unexpected (length t) class s why) e h

  pub stops_of : {most : Room} {awaited : List Awaited} {d : ℕ} {used : Used} {s : List Token} {why : Refusal} → Stops most (length a) awaited d used s why → Stops most (length b) awaited d used s why
  stops_of {most} {awaited} {d} {used} {s} {why} h = subst (λ t. Stops most (length t) awaited d used s why) e h

  pub binder_of : {most : Room} {d : ℕ} {used : Used} {s r : List Token} {table : List Place} {f : LentLists} {n : ℕ} → TookBinder most (length a) d used s r table f n → TookBinder most (length b) d used s r table f n
  binder_of {most} {d} {used} {s} {r} {table} {f} {n} h = subst (λ t. TookBinder most (length t) d used s r table f n) e h

  pub recipe_of : (d : ℕ) (first : Piece) (s r : List Token) (old new : LentLists) (answer : Result ℕ Refusal) → TakesRecipe a d first s r old new answer → TakesRecipe b d first s r old new answer
  recipe_of d first s r old new answer h = subst (λ t. TakesRecipe t d first s r old new answer) e h

  pub leaf_of : {s r : List Token} {piece : Piece} → NextLeaf a s r piece → NextLeaf b s r piece
  leaf_of {s} {r} {piece} h = subst (λ t. NextLeaf t s r piece) e h
