-- A short spelling as one number, and how that is printed. Assumes nothing. (docs/RULES.md, "Packing")
use Rattle.std.specs.Prelude.{◌≡◌, ℕ, ◌+◌, ◌*◌, ◌^◌, ◌<◌, ◌≤◌, Bool, false, not, cond, List, ◌++◌, length, Some, None, Option, codes, ◌==◌, nat_le, slice_index}
use Rattle.std.specs.Fmt.{digits}
use Rattle.std.specs.Int.{w64, to_be_bytes}
use Rattle.std.specs.List.{take_while}
use Rattle.std.specs.Str.{is_utf8}

-- up to eight bytes as the digits of one number in base 256, the first byte highest, 0 for each byte that is missing
unfoldable pub packed : List ℕ → ℕ
packed bs =
    slice_index bs 0 * 256 ^ 7 + slice_index bs 1 * 256 ^ 6 + slice_index bs 2 * 256 ^ 5 + slice_index bs 3 * 256 ^ 4 + slice_index bs 4 * 256 ^ 3 + slice_index bs 5 * 256 ^ 2 + slice_index bs 6 * 256 + slice_index bs 7

-- more than eight bytes have no such number
abbrev pub packed_if_short : List ℕ → Option ℕ
packed_if_short bs = cond (nat_le (length bs) 8) (Some (packed bs)) None

-- up to eight bytes, none of them 0
pub record Spelling (bs : List ℕ) : Type 0 where
  pub short : length bs ≤ 8
  pub bytes : (k : ℕ) → k < length bs → (0 < slice_index bs k) × (slice_index bs k < 256)

-- no other spelling has the number of this one
abbrev pub PackedOnce : List ℕ → Type 0
PackedOnce bs = Spelling bs → (other : List ℕ) → Spelling other → packed other ≡ packed bs → other ≡ bs

-- a byte that is no zero
abbrev pub is_filled : ℕ → Bool
is_filled b = not (b == 0)

-- the spelling that a number packs: its eight bytes, the highest first, without the zeros that fill it
unfoldable pub unpacked : ℕ → List ℕ
unpacked n = take_while is_filled (to_be_bytes w64 n)

-- the spelling as it stands where it is UTF-8, else the number in hexadecimal
abbrev pub spelling_text : ℕ → List ℕ
spelling_text n = cond (is_utf8 (unpacked n)) (unpacked n) (codes "0x" ++ digits 16 false n)
