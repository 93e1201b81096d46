-- The names and holes of a text are short spellings. Assumes nothing.
use Rattle.std.proofs.Common.{◌≡◌, ℕ, zero, suc, ◌+◌, ◌≤◌, ◌<◌, Bool, true, false, ◌&&◌, if◌then◌else◌, List, [], ◌∷◌, length, slice_index, nat_le, refl, subst, arith}
use Rattle.std.proofs.lemmas.Bool.Decides.{nat_tests}
use Rattle.std.specs.List.{list_all}
use Rattle.std.specs.Char.{is_ascii_lowercase, is_ascii_uppercase}
use Rattle.recipe.specs.Packing.{Spelling}
use Rattle.tokens.specs.Words.{name_byte, is_tail, class_of_word}
use Rattle.tokens.specs.Tokens.{Token, tokens}
use Rattle.tokens.specs.Covering.{Covered, IsSpelled}
use Rattle.tokens.specs.declared.classes.Class.{Class}
use Rattle.tokens.specs.declared.classes.Class.TheVariants.{Lambda, Name, Hole, Leaf, Unknown}
use Rattle.tokens.proofs.Covers.{covered}
use Rattle.notation.specs.Taking.{Short, AllShort}

-- a byte of a name is no zero
name_byte_some : (b : ℕ) → name_byte b ≡ true → (0 < b) × (b < 256)
name_byte_some b h = (grind (arith, nat_tests), grind (arith, nat_tests))

lowercase_some : (b : ℕ) → is_ascii_lowercase b ≡ true → (0 < b) × (b < 256)
lowercase_some b h = (grind (arith, nat_tests), grind (arith, nat_tests))

uppercase_some : (b : ℕ) → is_ascii_uppercase b ≡ true → (0 < b) × (b < 256)
uppercase_some b h = (grind (arith, nat_tests), grind (arith, nat_tests))

both_left : (a b : Bool) → (a && b) ≡ true → a ≡ true
both_left true b h = refl
both_left false b h = h

both_right : (a b : Bool) → (a && b) ≡ true → b ≡ true
both_right true b h = h
both_right false b h = cc

tail_some : (bs : List ℕ) → list_all name_byte bs ≡ true → (k : ℕ) → k < length bs → (0 < slice_index bs k) × (slice_index bs k < 256)
tail_some [] h k l = absurd (omega arith)
tail_some (b ∷ bs) h zero l = name_byte_some b (both_left (name_byte b) (list_all name_byte bs) h)
tail_some (b ∷ bs) h (suc k) l = tail_some bs (both_right (name_byte b) (list_all name_byte bs) h) k (omega arith)

le_from_test : (a b : ℕ) → nat_le a b ≡ true → a ≤ b
le_from_test a b h = grind arith

-- a byte that is no zero, and at most seven bytes of a name after it
spelling_of : (b : ℕ) (bs : List ℕ) → (0 < b) × (b < 256) → is_tail bs ≡ true → Spelling (b ∷ bs)
spelling_of b bs some tail =
    let few = le_from_test (length bs) 7 (both_left (nat_le (length bs) 7) (list_all name_byte bs) tail) in
    record { short = omega (arith, few); bytes = each }
  where
    each : (k : ℕ) → k < length (b ∷ bs) → (0 < slice_index (b ∷ bs) k) × (slice_index (b ∷ bs) k < 256)
    each zero l = some
    each (suc k) l = tail_some bs (both_right (nat_le (length bs) 7) (list_all name_byte bs) tail) k (omega arith)

chose_name : (a b c d : Bool) → Name ≡ (if a then Leaf else if b then Lambda else if c then Name else if d then Hole else Unknown) → c ≡ true
chose_name true b c d h = cc
chose_name false true c d h = cc
chose_name false false true d h = refl
chose_name false false false true h = cc
chose_name false false false false h = cc

chose_hole : (a b c d : Bool) → Hole ≡ (if a then Leaf else if b then Lambda else if c then Name else if d then Hole else Unknown) → d ≡ true
chose_hole true b c d h = cc
chose_hole false true c d h = cc
chose_hole false false true d h = cc
chose_hole false false false true h = refl
chose_hole false false false false h = cc

name_spelling : (word : List ℕ) → Name ≡ class_of_word word → Spelling word
unfolding class_of_word
name_spelling [] h = cc
name_spelling (b ∷ bs) h =
    let c = chose_name _ _ (is_ascii_lowercase b && is_tail bs) _ h in
    spelling_of b bs (lowercase_some b (both_left (is_ascii_lowercase b) (is_tail bs) c)) (both_right (is_ascii_lowercase b) (is_tail bs) c)

hole_spelling : (word : List ℕ) → Hole ≡ class_of_word word → Spelling word
unfolding class_of_word
hole_spelling [] h = cc
hole_spelling (b ∷ bs) h =
    let c = chose_hole _ _ _ (is_ascii_uppercase b && is_tail bs) h in
    spelling_of b bs (uppercase_some b (both_left (is_ascii_uppercase b) (is_tail bs) c)) (both_right (is_ascii_uppercase b) (is_tail bs) c)

-- a word that is no lone apostrophe before a parenthesis
classed : (lone : Bool) (c word_class : Class) → (c ≡ Unknown → ⊥) → c ≡ (if lone then Unknown else word_class) → c ≡ word_class
classed true c w n h = absurd (n h)
classed false c w n h = h

short_token : (k : Token) (rest : List ℕ) → IsSpelled k.class k.bytes rest → Short k
short_token k rest spelled =
    record {
      name = λ h. name_spelling k.bytes (classed _ Name (class_of_word k.bytes) (λ e. cc) (subst (λ c. IsSpelled c k.bytes rest) h spelled).classed);
      hole = λ h. hole_spelling k.bytes (classed _ Hole (class_of_word k.bytes) (λ e. cc) (subst (λ c. IsSpelled c k.bytes rest) h spelled).classed);
    }

all_short : (ts : List Token) (offset : ℕ) (text : List ℕ) → Covered ts offset text → AllShort ts
all_short [] offset text c = tt
all_short (k ∷ ts) offset text c = (short_token k c.rest c.spelled, all_short ts (k.start + length k.bytes) c.rest c.later)

-- all tokens of a text
pub tokens_short : (text : List ℕ) → AllShort (tokens text)
tokens_short text = all_short (tokens text) 0 text (covered text)
