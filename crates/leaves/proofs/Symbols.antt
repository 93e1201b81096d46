-- A symbol has one spelling, and is printed as that. Assumes nothing.
use Rattle.std.proofs.Common.{◌≡◌, ℕ, zero, suc, ◌<◌, true, List, [], ◌∷◌, length, get_or, Some, inl, inr, ap, arith}
use Rattle.std.proofs.lemmas.Bool.{cases_lt}
use Rattle.std.proofs.lemmas.List.{get_or_past}
use Rattle.std.proofs.lemmas.Str.{IsUtf8-from_ascii}
use Rattle.std.specs.Str.{IsAscii}
use Rattle.std.proofs.lemmas.Bool.Decides.{nat_tests}
use Rattle.std.proofs.lemmas.List.Sums.{AllPass-from_list_all}
use Rattle.recipe.specs.Packing.{packed, Spelling}
use Rattle.recipe.proofs.PackedOnce.{packed_once}
use Rattle.recipe.proofs.Printed.{printed}
use Rattle.leaves.specs.Printing.{symbol_text}
use Rattle.leaves.specs.Symbols.{name_byte, is_name, symbol_of}
use Rattle.leaves.specs.declared.symbol.Symbol.{Symbol}

name_byte_small : (b : ℕ) → name_byte b ≡ true → (0 < b) × (b < 128)
name_byte_small b e = grind (arith, nat_tests)

name_bytes : (bs : List ℕ) → is_name bs ≡ true → (k : ℕ) → k < length bs → (0 < get_or bs k 0) × (get_or bs k 0 < 128)
name_bytes [] e k h = absurd (omega arith)
name_bytes (b ∷ bs) e zero h = grind (arith, nat_tests)
name_bytes (b ∷ bs) e (suc k) h =
    name_byte_small (get_or bs k 0) (AllPass-from_list_all name_byte bs (grind (arith, nat_tests)) k 0 (omega arith))

pub name_spelling : (bs : List ℕ) → is_name bs ≡ true → Spelling bs
name_spelling [] e = grind (arith, nat_tests)
name_spelling (b ∷ bs) e =
    record { short = grind (arith, nat_tests); bytes = λ k h. let byte = name_bytes (b ∷ bs) e k h in (byte.0, omega (arith, byte.1)) }

-- a name is a text
name_ascii : (bs : List ℕ) → is_name bs ≡ true → IsAscii bs
name_ascii bs e k =
    elim (cases_lt k (length bs)) [
      | inl h ↦ (name_bytes bs e k h).1
      | inr h ↦ omega (arith, get_or_past bs k 0 h)
    ]

-- a word that spells a symbol is an apostrophe and the name that the symbol packs
pub spelled : (b : ℕ) (name : List ℕ) (x : Symbol) → symbol_of (b ∷ name) ≡ Some x → (b ≡ 39) × Spelling name × (packed name ≡ x.packed)
spelled b name x e = (grind (arith, nat_tests), name_spelling name (grind (arith, nat_tests)), grind (arith, nat_tests))

-- one word spells a symbol
pub symbol_once : (v w : List ℕ) (x : Symbol) → symbol_of v ≡ Some x → symbol_of w ≡ Some x → v ≡ w
symbol_once [] w x d e = grind arith
symbol_once (a ∷ v) [] x d e = grind arith
symbol_once (a ∷ v) (b ∷ w) x d e = grind (arith, nat_tests, name_spelling v, name_spelling w, packed_once v w)

-- a symbol that is read is printed as its word
pub symbol_printed : (word : List ℕ) (x : Symbol) → symbol_of word ≡ Some x → symbol_text x ≡ word
symbol_printed [] x e = grind arith
symbol_printed (b ∷ name) x e =
    let first : b ≡ 39 = grind (arith, nat_tests) in
    let named : is_name name ≡ true = grind (arith, nat_tests) in
    let is : x.packed ≡ packed name = grind (arith, nat_tests) in
    rw (first, is) (ap (λ bs. 39 ∷ bs) (printed name (name_spelling name named) (IsUtf8-from_ascii name (name_ascii name named))))
