-- The tokens of a text cover it. Assumes nothing.
use Rattle.std.proofs.Common.{◌≡◌, ℕ, zero, suc, ◌+◌, ◌≤◌, true, List, [], ◌∷◌, ◌++◌, length, take, drop, arith, append_assoc, sym, ap, ◌∙◌, subst, inl, inr}
use Rattle.std.specs.List.{prefix_len, list_all}
use Rattle.std.proofs.lemmas.Bool.{cases_lt}
use Rattle.std.proofs.lemmas.List.{drop_all, length-drop, length-take-le, take-append-drop, take_all}
use Rattle.tokens.specs.Words.{is_white}
use Rattle.tokens.specs.Tokens.{front_size, front_token, tokens_after, tokens_from}
use Rattle.tokens.specs.Covering.{CoveredBy, Covered}
use Rattle.tokens.proofs.FrontSizes.{white_size_within, front_size_within}
use Rattle.tokens.proofs.Spelling.{front_passes, front_spelled}
use Rattle.tokens.proofs.Steps.{white_dropped, begins_past_white, first_token}

no_tokens : (text : List ℕ) (offset : ℕ) → length text ≤ prefix_len is_white text → Covered (tokens_from offset text) offset text
unfolding tokens_after
no_tokens text offset h =
    let white = prefix_len is_white text in
    let none : tokens_from offset text ≡ [] = white_dropped text offset ∙ ap (λ s. tokens_from (offset + white) s) (drop_all white text h) in
    subst (λ ts. Covered ts offset text) (sym none) (subst (λ s. list_all is_white s ≡ true) (take_all white text h) (front_passes is_white text))

-- the size bounds the length of the text
covered_within : (size : ℕ) (text : List ℕ) (offset : ℕ) → length text ≤ size → Covered (tokens_from offset text) offset text
covered_within zero text offset h = no_tokens text offset (omega (arith, white_size_within text))
covered_within (suc size) text offset h =
    let white = prefix_len is_white text in
    let inner = drop white text in
    let start = offset + white in
    let taken = front_size inner in
    let rest = drop taken inner in
    elim (cases_lt white (length text)) [
      | inl some ↦
          let first = first_token inner start (begins_past_white text some) in
          let all : tokens_from offset text ≡ front_token start inner ∷ tokens_from (start + taken) rest = white_dropped text offset ∙ first.1 in
          let white_is : length (take white text) ≡ white = length-take-le white text (omega arith) in
          let taken_is : length (take taken inner) ≡ taken = length-take-le taken inner (front_size_within inner) in
          let shorter : length rest ≤ size = omega (arith, length-drop taken inner, length-drop white text, first.0) in
          let covered : CoveredBy (Covered (tokens_from (start + taken) rest)) offset text (front_token start inner) = record {
            white = take white text;
            rest = rest;
            parts = sym (append_assoc (take white text) (take taken inner) rest ∙ ap (λ s. take white text ++ s) (take-append-drop taken inner) ∙ take-append-drop white text);
            blank = front_passes is_white text;
            start = omega (arith, white_is);
            some = omega (arith, taken_is, first.0);
            spelled = front_spelled inner;
            later = subst (λ n. Covered (tokens_from (start + taken) rest) (start + n) rest) (sym taken_is) (covered_within size rest (start + taken) shorter);
          } in
          subst (λ ts. Covered ts offset text) (sym all) covered
      | inr none ↦ no_tokens text offset none
    ]

pub covered : (text : List ℕ) → Covered (tokens_from 0 text) 0 text
covered text = covered_within (length text) text 0 (omega arith)
