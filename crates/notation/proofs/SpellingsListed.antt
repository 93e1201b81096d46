-- The number of a spelling is the index at which it is listed. Assumes nothing.
use Rattle.std.proofs.Common.{◌≡◌, ℕ, suc, ◌+◌, ◌<◌, Bool, true, false, cond, not, inl, inr, List, [], ◌∷◌, length, Some, refl, ap, sym, subst, ◌∙◌, arith}
use Rattle.std.proofs.lemmas.List.Elements.{All-head}
use Rattle.std.proofs.lemmas.Slice.Eq.{bytes_eq-Decides}
use Rattle.std.specs.Prelude.{bytes_eq}
use Rattle.std.specs.List.{slice_get}
use Rattle.recipe.specs.Common.{In}
use Rattle.notation.specs.Grammar.{Tree}
use Rattle.notation.specs.Fitting.{with_word, with_words}
use Rattle.notation.specs.Meaning.{NumbersTell}
use Rattle.notation.specs.Tables.{number, names, holes, of_each}
use Rattle.notation.proofs.NumbersRead.{each_numbered}

-- a number that is an index is that of the spelling
listed_at : (ns : List (List ℕ)) (w : List ℕ) → number ns w < length ns → slice_get ns (number ns w) ≡ Some w
listed_at [] w low = absurd (omega arith)
listed_at (x ∷ ns) w low = one_at (bytes_eq w x) refl low (listed_at ns w)
  where
    add_one : (n : ℕ) → 1 + n ≡ suc n
    add_one n = omega arith

    one_at : (b : Bool) → bytes_eq w x ≡ b → cond (not b) (1 + number ns w) 0 < suc (length ns) → (number ns w < length ns → slice_get ns (number ns w) ≡ Some w) → slice_get (x ∷ ns) (cond (not b) (1 + number ns w) 0) ≡ Some w
    one_at true is h rest = ap (λ v. Some v) (sym ((bytes_eq-Decides w x).0 is))
    one_at false is h rest = ap (λ n. slice_get (x ∷ ns) n) (add_one (number ns w)) ∙ rest (omega arith)

-- each of the spellings that are listed has such a number
numbered_in : (ws ns : List (List ℕ)) (w : List ℕ) → In w ws → number (with_words ns ws) w < length (with_words ns ws)
unfolding with_words
numbered_in [] ns w i = absurd i
numbered_in (v ∷ ws) ns w (inl e) =
    let all : List (List ℕ) = with_words (with_word ns v) ws in
    subst (λ x. number all x < length all) (sym e) (All-head (λ x. number all x < length all) v ws (each_numbered (v ∷ ws) ns))
numbered_in (v ∷ ws) ns w (inr i) = numbered_in ws (with_word ns v) w i

-- the numbers of names and holes
pub numbers_tell : (ts : List Tree) → NumbersTell ts
numbers_tell ts = record {
  names = λ w i. listed_at _ w (numbered_in (of_each names ts) [] w i);
  holes = λ w i. listed_at _ w (numbered_in (of_each holes ts) [] w i);
}
