-- Nothing else than the tokens of a text covers it. Assumes nothing.
use Rattle.std.proofs.Common.{◌≡◌, ℕ, suc, ◌+◌, ◌<◌, Bool, true, false, cond, List, [], ◌∷◌, ◌++◌, length, take, drop, codes, arith, append_assoc, refl, sym, ap, ap₂, ◌∙◌, subst}
use Rattle.std.specs.List.{prefix_len, list_all}
use Rattle.std.proofs.lemmas.Bool.Decides.{nat_tests}
use Rattle.std.proofs.lemmas.List.{take_at, drop_at}
use Rattle.tokens.specs.Words.{is_white, in_word, word_size, class_of_word}
use Rattle.tokens.specs.Tokens.{Token, begins, front_class, front_size, front_token, tokens_after, tokens_from}
use Rattle.tokens.specs.declared.classes.Class.{Class}
use Rattle.tokens.specs.declared.classes.Class.TheVariants.{Open, Close, Nil, Unknown}
use Rattle.tokens.specs.Covering.{IsWord, IsSpelled, Covered}
use Rattle.tokens.proofs.Spelling.{lone}
use Rattle.tokens.proofs.Steps.{BeginsToken, after_white, first_token}

-- none begins in white space
white_apart : (white rest : List ℕ) (offset : ℕ) → list_all is_white white ≡ true → tokens_from offset (white ++ rest) ≡ tokens_from (offset + length white) rest
white_apart [] rest offset e = ap (λ n. tokens_from n rest) (omega arith)
white_apart (b ∷ bs) rest offset e =
    let here : is_white b ≡ true = grind arith in
    let more : list_all is_white bs ≡ true = grind arith in
    after_white b (bs ++ rest) offset here ∙ white_apart bs rest (suc offset) more ∙ ap (λ n. tokens_from n rest) (omega arith)

white_alone : (text : List ℕ) (offset : ℕ) → list_all is_white text ≡ true → tokens_from offset text ≡ []
unfolding tokens_after
white_alone [] offset e = refl
white_alone (b ∷ bs) offset e =
    let here : is_white b ≡ true = grind arith in
    let more : list_all is_white bs ≡ true = grind arith in
    after_white b bs offset here ∙ white_alone bs (suc offset) more

-- the bytes before a byte that does not pass a test, where each of them does
front_is : (p : ℕ → Bool) (bytes rest : List ℕ) → list_all p bytes ≡ true → prefix_len p rest ≡ 0 → prefix_len p (bytes ++ rest) ≡ length bytes
front_is p [] rest e z = z
front_is p (b ∷ bs) rest e z = grind (arith, front_is p bs rest)

-- the class and the size where the text begins with no parenthesis and no nil
record NoParen (text : List ℕ) : Type 0 where
  pub no_open : begins text (codes "(") ≡ false
  pub no_close : begins text (codes ")") ≡ false
  pub no_nil : begins text (codes "'()") ≡ false

word_class : (text : List ℕ) → NoParen text → front_class text ≡ cond (begins text (codes "'(")) Unknown (class_of_word (take (word_size text) text))
word_class text apart = let a = apart.no_open in let b = apart.no_close in let c = apart.no_nil in grind arith

word_only : (text : List ℕ) → NoParen text → front_size text ≡ word_size text
word_only text apart = let a = apart.no_open in let b = apart.no_close in let c = apart.no_nil in grind arith

-- the token that a text begins with, from how it is spelled
record Fronted (class : Class) (bytes rest : List ℕ) : Type 0 where
  pub class_is : front_class (bytes ++ rest) ≡ class
  pub size_is : front_size (bytes ++ rest) ≡ length bytes
  pub begins_token : BeginsToken (bytes ++ rest)

fronted_word : (class : Class) (bytes rest : List ℕ) → 0 < length bytes → IsWord class bytes rest → Fronted class bytes rest
fronted_word class [] rest some w = absurd (omega arith)
fronted_word class (b ∷ bs) rest some w =
    let bytes = b ∷ bs in
    let here : in_word b ≡ true = grind (arith, w.inside) in
    let size : word_size (bytes ++ rest) ≡ length bytes = front_is in_word bytes rest w.inside w.ended in
    let word : take (word_size (bytes ++ rest)) (bytes ++ rest) ≡ bytes = ap (λ n. take n (bytes ++ rest)) size ∙ take_at bytes rest (length bytes) refl in
    let apart : NoParen (bytes ++ rest) = record { no_open = grind (arith, nat_tests, here); no_close = grind (arith, nat_tests, here); no_nil = w.not_nil } in
    record {
      class_is = word_class (bytes ++ rest) apart ∙ ap₂ (λ q v. cond q Unknown (class_of_word v)) (sym (lone bytes rest w.inside w.ended)) word ∙ sym w.classed;
      size_is = word_only (bytes ++ rest) apart ∙ size;
      begins_token = grind (arith, nat_tests, here);
    }

fronted : (class : Class) (bytes rest : List ℕ) → 0 < length bytes → IsSpelled class bytes rest → Fronted class bytes rest
fronted Open bytes rest some h = subst (λ s. Fronted Open s rest) (sym h) (record { class_is = refl; size_is = refl; begins_token = refl })
fronted Close bytes rest some h = subst (λ s. Fronted Close s rest) (sym h) (record { class_is = refl; size_is = refl; begins_token = refl })
fronted Nil bytes rest some h = subst (λ s. Fronted Nil s rest) (sym h) (record { class_is = refl; size_is = refl; begins_token = refl })
fronted class bytes rest some h = fronted_word class bytes rest some h

pub exact : (ts : List Token) (offset : ℕ) (text : List ℕ) → Covered ts offset text → ts ≡ tokens_from offset text
exact [] offset text blank = sym (white_alone text offset blank)
exact (t ∷ more) offset text c =
    let inner = t.bytes ++ c.rest in
    let start = offset + length c.white in
    let f = fronted t.class t.bytes c.rest c.some c.spelled in
    let parts : text ≡ c.white ++ inner = c.parts ∙ append_assoc c.white t.bytes c.rest in
    let front : tokens_from offset text ≡ tokens_from start inner = ap (tokens_from offset) parts ∙ white_apart c.white inner offset c.blank in
    let piece : ℕ → Class → List ℕ → Token = λ n k bs. record { start = n; class = k; bytes = bs } in
    let bytes_are : take (front_size inner) inner ≡ t.bytes = ap (λ n. take n inner) f.size_is ∙ take_at t.bytes c.rest (length t.bytes) refl in
    let one : front_token start inner ≡ t = ap₂ (λ n k. piece n k (take (front_size inner) inner)) (sym c.start) f.class_is ∙ ap (piece t.start t.class) bytes_are in
    let rest_is : drop (front_size inner) inner ≡ c.rest = ap (λ n. drop n inner) f.size_is ∙ drop_at t.bytes c.rest (length t.bytes) refl in
    let later : tokens_from (start + front_size inner) (drop (front_size inner) inner) ≡ more = ap₂ (λ n s. tokens_from n s) (omega (arith, c.start, f.size_is)) rest_is ∙ sym (exact more (t.start + length t.bytes) c.rest c.later) in
    sym (front ∙ (first_token inner start f.begins_token).1 ∙ ap₂ (λ x xs. x ∷ xs) one later)
