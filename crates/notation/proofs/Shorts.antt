-- Names and holes among the tokens of a text are short spellings. Assumes nothing.
use Rattle.std.proofs.Common.{◌≡◌, List, ◌∷◌, subst}
use Rattle.recipe.specs.Packing.{Spelling}
use Rattle.tokens.specs.Tokens.{Token}
use Rattle.tokens.specs.declared.classes.Class.{Class}
use Rattle.notation.specs.Taking.{AllShort}

pub rest_short : {s r : List Token} {k : Token} → s ≡ k ∷ r → AllShort s → AllShort r
rest_short e short = (subst AllShort e short).1

pub name_short : {s r : List Token} {k : Token} → s ≡ k ∷ r → AllShort s → k.class ≡ Class.Name → Spelling k.bytes
name_short e short h = (subst AllShort e short).0.name h
