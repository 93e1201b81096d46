-- Where things stand in the words of a memory: told pairs, records, marks, and the two forests twice. Only private functions cite it. Assumes nothing. (docs/RULES.md, "The memory")
use Rattle.std.specs.Prelude.{◌≡◌, ℕ, suc, ◌+◌, ◌*◌, ◌<◌, ◌≤◌, List, drop, slice_range, take}

-- the told pairs have the first 1,024 words, two a pair; then come the records, eight words a place
abbrev pub records_start : ℕ
records_start = 1024

-- then one mark a place
abbrev pub marks_start : ℕ → ℕ
marks_start size = records_start + 8 * size

-- then the forests, and the forests again
abbrev pub forests_start : ℕ → ℕ
forests_start size = records_start + 9 * size

-- the two forests have four words for each place, and four for nowhere and each of m names at each place
abbrev pub forests_length : ℕ → ℕ → ℕ
forests_length size m = 4 * size + 4 * suc (m * size)

-- the first copy of the forests
abbrev pub first_copy : ℕ → ℕ → List ℕ → List ℕ
first_copy size m ws = take (forests_length size m) (drop (forests_start size) ws)

-- the second copy
abbrev pub second_copy : ℕ → ℕ → List ℕ → List ℕ
second_copy size m ws = take (forests_length size m) (drop (forests_length size m) (drop (forests_start size) ws))

-- the end of all this
abbrev pub used : ℕ → ℕ → ℕ
used size m = forests_start size + (forests_length size m + forests_length size m)

-- from any word on that is past these, all words are as before; a table without places uses none
abbrev pub KeepsPast : ℕ → ℕ → List ℕ → List ℕ → Type 0
KeepsPast size m old new = (n : ℕ) → (0 < size → used size m ≤ n) → drop n new ≡ drop n old

-- the records
abbrev pub records : ℕ → List ℕ → List ℕ
records size ws = slice_range ws records_start (marks_start size)

-- the rows of the forest over places
abbrev pub places_rows : ℕ → List ℕ → List ℕ
places_rows size forests = take (4 * size) forests

-- the rows of the forest over names
abbrev pub names_rows : ℕ → List ℕ → List ℕ
names_rows size forests = drop (4 * size) forests
