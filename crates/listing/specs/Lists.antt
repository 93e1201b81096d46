-- What a listing says of a text. Assumes nothing. (docs/RULES.md, "Listings")
use Rattle.std.specs.Prelude.{◌≡◌, ℕ, ◌<◌, ◌≤◌, ◌-◌, Bool, List, ◌++◌, length, map, take, drop, replicate, Ok, Err, Option}
use Rattle.tokens.specs.Tokens.{tokens}
use Rattle.recipe.specs.Histories.{Entry, Right, request, sheet_table}
use Rattle.recipe.specs.Tables.{table_of}
use Rattle.recipe.specs.declared.places.Place.{Place}
use Rattle.recipe.specs.declared.refusals.Refusal.{Refusal}
use Rattle.notation.specs.Reading.{Lists, Reads}
use Rattle.notation.specs.Tables.{row}
use Rattle.notation.specs.declared.counts.Counts.{Counts}
use Rattle.listing.specs.Lines.{Adds}
use Rattle.listing.specs.Listed.{hole_lines, hole_looks, over_lines, pair_tells, tell_lines}
use Rattle.listing.specs.Report.{refused_text_line}
use Rattle.listing.specs.Roots.{Roots}

-- the bytes are the lines of a table: its roots are told in pairs and its holes looked at, and each answer is the right one
pub record Listed {L : Type 0} (same : L → L → Bool) (places : List Place) (ls : List L) (names holes bytes : List ℕ) : Type 0 where
  pub roots : List ℕ
  pub are_roots : Roots (table_of places ls) roots
  pub told : List Entry
  pub tells : map request told ≡ pair_tells roots
  pub looked : List Entry
  pub looks : map request looked ≡ hole_looks places 0 holes
  pub right : Right same (sheet_table places ls 13312) ls (told ++ looked)
  pub lines : bytes ≡ tell_lines told ++ over_lines roots ++ hole_lines names holes looked

-- these bytes are added (only private functions cite it)
pub record AddsListed {L : Type 0} (same : L → L → Bool) (places : List Place) (ls : List L) (names holes old new : List ℕ) : Type 0 where
  pub bytes : List ℕ
  pub listed : Listed same places ls names holes bytes
  pub added : Adds bytes old new

-- the lists into which a text is read: 64 places, 16 names and 64 holes, all zero, and these leaves
abbrev pub lists_for : {L : Type 0} → List L → Lists L
lists_for ls = record { places = replicate 64 (row 0 0 0); names = replicate 16 0; holes = replicate 64 0; leaves = ls }

-- the lines of a text of at most 4,096 bytes, with as many leaves as there are in a list, before and after
pub data Read {L : Type 0} (spells : List ℕ → Option L) (same : L → L → Bool) (text : List ℕ) (old new : List L) (bytes : List ℕ) : Type 0 where
  refused : {r : Refusal} {lists : Lists L} → Reads spells (length text) (tokens text) (lists_for old) lists (Err r) → new ≡ lists.leaves → bytes ≡ refused_text_line r → Read spells same text old new bytes
  listed : {counts : Counts} {lists : Lists L} → Reads spells (length text) (tokens text) (lists_for old) lists (Ok counts) → new ≡ lists.leaves → Listed same (take counts.places lists.places) (take counts.leaves lists.leaves) (take counts.names lists.names) (take counts.holes lists.holes) bytes → Read spells same text old new bytes

-- the lines of a text: a longer one is refused before all else; at most the first 64 leaves of the list are there to be read into
pub data ListsText {L : Type 0} (spells : List ℕ → Option L) (same : L → L → Bool) (text : List ℕ) (old new : List L) (bytes : List ℕ) : Type 0 where
  too_long : 4096 < length text → new ≡ old → bytes ≡ refused_text_line (Refusal.NoRoom 4096) → ListsText spells same text old new bytes
  read : {first : List L} → length text ≤ 4096 → Read spells same text (take 64 old) first bytes → new ≡ first ++ drop 64 old → ListsText spells same text old new bytes

-- the buffer has the lines of a text, as far as they fit, and then zeros; so many bytes are written
pub record Listing {L : Type 0} (spells : List ℕ → Option L) (same : L → L → Bool) (text : List ℕ) (old new : List L) (out : List ℕ) (count : ℕ) : Type 0 where
  pub lines : List ℕ
  pub lists : ListsText spells same text old new lines
  pub written : out ≡ take 4096 lines ++ replicate (4096 - count) 0
  pub counted : count ≡ length (take 4096 lines)

-- the lines of a text are added (only private functions cite this and the next)
pub record AddsRead {L : Type 0} (spells : List ℕ → Option L) (same : L → L → Bool) (text : List ℕ) (leaves leaves' : List L) (old new : List ℕ) : Type 0 where
  pub bytes : List ℕ
  pub read : Read spells same text leaves leaves' bytes
  pub added : Adds bytes old new

pub record AddsLists {L : Type 0} (spells : List ℕ → Option L) (same : L → L → Bool) (text : List ℕ) (leaves leaves' : List L) (old new : List ℕ) : Type 0 where
  pub bytes : List ℕ
  pub lists : ListsText spells same text leaves leaves' bytes
  pub added : Adds bytes old new
