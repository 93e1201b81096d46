-- When the words of two places write forms that differ. Assumes nothing.
use Rattle.std.proofs.Common.{◌≡◌, ℕ, zero, suc, ◌+◌, ◌*◌, ◌≢◌, Bool, true, false, not, ◌↔◌, List, get_or, nat_eq, Some, refl, sym, ap, ◌∙◌, subst, arith, rules}
use Rattle.std.proofs.lemmas.Bool.{both_ways}
use denote.Enum.Bare.{sameb, same_true}
use Rattle.recipe.specs.declared.places.Kind.{Kind}
use Rattle.recipe.specs.contracts.places.Kind.{the_type}
use Rattle.recipe.specs.Kinds.{code_of}
use Rattle.recipe.specs.Links.{Differ, kind_of}
use Rattle.recipe.specs.Tables.{Form, form_by}
use Rattle.nodes.specs.Records.{written_form}

-- the kind of a number
kind_by : ℕ → Kind
kind_by zero = Kind.Nil
kind_by (suc zero) = Kind.Leaf
kind_by (suc (suc zero)) = Kind.Name
kind_by (suc (suc (suc zero))) = Kind.Hole
kind_by (suc (suc (suc (suc zero)))) = Kind.Bind
kind_by _ = Kind.Call

kind_back : (k : Kind) → kind_by (code_of k) ≡ k
unfolding kind_by
kind_back Kind.Nil = refl
kind_back Kind.Leaf = refl
kind_back Kind.Name = refl
kind_back Kind.Hole = refl
kind_back Kind.Bind = refl
kind_back Kind.Call = refl

-- kinds with one number are one
one_code : (k m : Kind) → code_of k ≡ code_of m → k ≡ m
one_code k m e = sym (kind_back k) ∙ ap kind_by e ∙ kind_back m

same_itself : (k : Kind) → sameb the_type k k ≡ true
same_itself Kind.Nil = search rules
same_itself Kind.Leaf = search rules
same_itself Kind.Name = search rules
same_itself Kind.Hole = search rules
same_itself Kind.Bind = search rules
same_itself Kind.Call = search rules

-- what is told of two kinds by their test for equality
pub one_kind : (k m : Kind) → sameb the_type k m ≡ true → k ≡ m
one_kind k m e = same_true the_type (search rules) k m e

pub hole_kind : (k : Kind) (f : Form ℕ) → code_of k ≡ kind_of f → sameb the_type k Kind.Hole ≡ true → kind_of f ≡ 3
hole_kind k f one e = sym one ∙ ap code_of (one_kind k Kind.Hole e)

pub not_of : (b : Bool) → not b ≡ false → b ≡ true
not_of true e = refl
not_of false e = cc

pub not_so : (b : Bool) → not b ≡ true → b ≡ false
not_so true e = cc
not_so false e = refl

pub not_kind : (k m : Kind) → sameb the_type k m ≡ false → code_of k ≢ code_of m
not_kind k m n e = both_ways _ n (subst (λ j. sameb the_type k j ≡ true) (one_code k m e) (same_itself k))

-- two kinds that differ, of forms that are no holes
pub kinds_differ : (k m : Kind) (f g : Form ℕ) → code_of k ≡ kind_of f → code_of m ≡ kind_of g → sameb the_type k Kind.Hole ≡ false → sameb the_type m Kind.Hole ≡ false → sameb the_type k m ≡ false → Differ nat_eq f g
kinds_differ k m f g one two first second apart =
    Differ.kinds (λ e. not_kind k Kind.Hole first (one ∙ e)) (λ e. not_kind m Kind.Hole second (two ∙ e)) (λ e. not_kind k m apart (one ∙ e ∙ sym two))

-- leaves differ if their numbers do
leaf_numbers : {f g : Form ℕ} (a d : ℕ) → f ≡ Form.leaf a → g ≡ Form.leaf d → Differ nat_eq f g → nat_eq a d ≡ false
leaf_numbers a d e h (Differ.kinds n m k) = absurd (k (ap kind_of e ∙ sym (ap kind_of h)))
leaf_numbers a d e h (Differ.leaves {l = l} {m = k} s) = let one : l ≡ a = cc in let two : k ≡ d = cc in rw (← one, ← two) s

pub leaves_differ : (f g : Form ℕ) (a d : ℕ) → f ≡ Form.leaf a → g ≡ Form.leaf d → (not (nat_eq a d) ≡ true) ↔ Differ nat_eq f g
leaves_differ f g a d e h =
    (λ n. rw (e, h) (Differ.leaves (not_so (nat_eq a d) n)), λ o. rw (leaf_numbers a d e h o) refl)

-- a form of the kind of leaves is a leaf
leaf_by : (a b k : ℕ) → kind_of (form_by {L = ℕ} (Some a) a b k) ≡ 1 → form_by (Some a) a b k ≡ Form.leaf a
leaf_by a b zero e = absurd (omega arith)
leaf_by a b (suc zero) e = refl
leaf_by a b (suc (suc zero)) e = absurd (omega arith)
leaf_by a b (suc (suc (suc zero))) e = absurd (omega arith)
leaf_by a b (suc (suc (suc (suc zero)))) e = absurd (omega arith)
leaf_by a b (suc (suc (suc (suc (suc zero))))) e = absurd (omega arith)
leaf_by a b (suc (suc (suc (suc (suc (suc k)))))) e = absurd (omega arith)

pub leaf_written : (ws : List ℕ) (p : ℕ) → kind_of (written_form ws p) ≡ 1 → written_form ws p ≡ Form.leaf (get_or ws (8 * p + 1) 0)
leaf_written ws p e = leaf_by (get_or ws (8 * p + 1) 0) (get_or ws (8 * p + 2) 0) (get_or ws (8 * p) 0) e
