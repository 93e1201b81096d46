-- What the test of two classes says. Assumes nothing.
use Rattle.std.proofs.Common.{◌≡◌, true, false, not, refl, ap, sym, ◌∙◌, rules}
use Rattle.tokens.specs.declared.classes.Class.{Class}
use Rattle.tokens.specs.contracts.classes.Class.{the_type}
use denote.Enum.Bare.{sameb, same_true}

same : (a : Class) → sameb the_type a a ≡ true
same Class.Open = refl
same Class.Close = refl
same Class.Nil = refl
same Class.Lambda = refl
same Class.Name = refl
same Class.Hole = refl
same Class.Leaf = refl
same Class.Unknown = refl

pub same_class : (a b : Class) → true ≡ sameb the_type a b → a ≡ b
same_class a b e = same_true the_type (search rules) a b (sym e)

pub other_class : (a b : Class) → false ≡ sameb the_type a b → a ≡ b → ⊥
other_class a b e h = let f = ap (λ x. sameb the_type a x) (sym h) ∙ same a in let g = e ∙ f in cc

pub different_class : (a b : Class) → true ≡ not (sameb the_type a b) → a ≡ b → ⊥
different_class a b e h = let f = ap (λ x. not (sameb the_type a x)) (sym h) ∙ ap not (same a) in let g = e ∙ f in cc
