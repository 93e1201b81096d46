-- The bytes of words, and the classes of words. Assumes nothing. (docs/RULES.md, "Notation")
use Rattle.std.specs.Prelude.{ℕ, Bool, ◌&&◌, ◌||◌, not, if◌then◌else◌, List, [], ◌∷◌, length, bytes_eq, codes, ◌==◌, nat_le}
use Rattle.std.specs.Char.{is_ascii_alphanumeric, is_ascii_digit, is_ascii_lowercase, is_ascii_uppercase}
use Rattle.std.specs.List.{list_all, prefix_len}
use Rattle.tokens.specs.declared.classes.Class.{Class}
use Rattle.tokens.specs.declared.classes.Class.TheVariants.{Lambda, Name, Hole, Leaf, Unknown}

-- white space: space, tab, line feed, carriage return
abbrev pub is_white : ℕ → Bool
is_white b = b == 32 || b == 9 || b == 10 || b == 13

-- an opening or a closing parenthesis
abbrev pub is_paren : ℕ → Bool
is_paren b = b == 40 || b == 41

-- any other byte belongs to a word
abbrev pub in_word : ℕ → Bool
in_word b = not (is_white b || is_paren b)

-- how many bytes the word at the front of a text has: it runs to the next white space or parenthesis
abbrev pub word_size : List ℕ → ℕ
word_size text = prefix_len in_word text

-- a letter of either case, a digit or a hyphen
abbrev pub name_byte : ℕ → Bool
name_byte b = is_ascii_alphanumeric b || b == 45

-- what follows the first byte of a name or a hole: at most seven such bytes
abbrev pub is_tail : List ℕ → Bool
is_tail bs = nat_le (length bs) 7 && list_all name_byte bs

-- the word lambda
abbrev pub is_lambda : List ℕ → Bool
is_lambda word = bytes_eq word (codes "lambda")

-- the class of a word, by its first byte and the bytes after it
unfoldable pub class_of_word : List ℕ → Class
class_of_word [] = Unknown
class_of_word (b ∷ bs) =
    if b == 39 || is_ascii_digit b then Leaf
    else if is_lambda (b ∷ bs) then Lambda
    else if is_ascii_lowercase b && is_tail bs then Name
    else if is_ascii_uppercase b && is_tail bs then Hole
    else Unknown
