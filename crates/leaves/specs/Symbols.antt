-- How symbols are spelled, and when two are the same. Assumes nothing. (docs/RULES.md, "Symbols")
use Rattle.std.specs.Prelude.{◌≡◌, ℕ, Bool, false, cond, ◌&&◌, ◌||◌, List, [], ◌∷◌, length, Some, None, Option, codes, ◌==◌, nat_le}
use Rattle.std.specs.Char.{is_ascii_digit, is_ascii_lowercase}
use Rattle.recipe.specs.Packing.{packed}
use Rattle.std.specs.List.{list_all}
use Rattle.leaves.specs.declared.symbol.Symbol.{Symbol}

-- a lower-case letter, a digit or a hyphen
abbrev pub name_byte : ℕ → Bool
name_byte b = is_ascii_lowercase b || is_ascii_digit b || b == 45

-- the tail of a name: at most seven such bytes
abbrev pub is_tail : List ℕ → Bool
is_tail bs = nat_le (length bs) 7 && list_all name_byte bs

-- a name: one lower-case letter, and then a tail
abbrev pub is_name : List ℕ → Bool
is_name [] = false
is_name (b ∷ bs) = is_ascii_lowercase b && is_tail bs

-- an apostrophe and a name spell the symbol that packs the name; nothing else spells one
abbrev pub symbol_of : List ℕ → Option Symbol
symbol_of [] = None
symbol_of (b ∷ name) = cond (b == 39 && is_name name) (Some (record { packed = packed name })) None

-- sameness of symbols: equal packed names
abbrev pub same_symbol : Symbol → Symbol → Bool
same_symbol x y = x.packed == y.packed

-- where a word spells the symbol r, no other word spells it: the packed number tells the bytes
abbrev pub OnlyWord : List ℕ → Option Symbol → Type 0
OnlyWord word r = (other : List ℕ) (x : Symbol) → r ≡ Some x → symbol_of other ≡ Some x → other ≡ word

-- a word of nine bytes that spells a symbol
abbrev pub longest_symbol : List ℕ
longest_symbol = codes "'abcdefgh"
