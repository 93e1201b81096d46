-- What a memory holds of a table and its told pairs. Only private functions cite it. Assumes nothing. (docs/RULES.md, "The memory")
use Rattle.std.specs.Prelude.{◌≡◌, ℕ, ◌*◌, ◌<◌, ◌≤◌, Bool, List, [], ◌∷◌, ◌++◌, length, nat_eq, take}
use Rattle.std.specs.List.{range_with_len}
use Rattle.recipe.specs.Fillings.{Pair, Satisfiable}
use Rattle.recipe.specs.Tables.{Table, table_of}
use Rattle.recipe.specs.declared.places.Place.{Place}
use Rattle.closure.specs.Decision.{HolesBelow, WellFormed}
use Rattle.closure.specs.OtherLeaves.{SameTables}
use Rattle.nodes.specs.Entering.{Entered}
use Rattle.nodes.specs.HoldersWritten.{HoldersWritten}
use Rattle.nodes.specs.Records.{written}
use Rattle.sheet.specs.Layout.{first_copy, forests_start, names_rows, places_rows, records, second_copy, used}
use Rattle.sheet.specs.Sheet.{pair_words}

-- the table that the records write
abbrev pub written_table : ℕ → List ℕ → Table ℕ
written_table size ws = written size (records size ws)

-- the two forests have all that the told pairs say
abbrev pub EnteredIn : {L : Type 0} → Table L → ℕ → List Pair → List ℕ → Type 0
EnteredIn T m told forests = Entered T m told (places_rows T.size forests) (names_rows T.size forests)

-- they have so for some told pairs that are well formed with the pair p, q after them
abbrev pub EnteredInBefore : {L : Type 0} → Table L → ℕ → ℕ → ℕ → List ℕ → Type 0
EnteredInBefore T m p q forests =
    (told : List Pair) × WellFormed T m (told ++ ((p, q) ∷ [])) × EnteredIn T m told forests

-- the words before the forests write a well formed table, with holes below 512, and the holder of each place
pub record HasTable (size m : ℕ) (ws : List ℕ) : Type 0 where
  pub few_places : size ≤ 512
  pub few_names : m ≤ 64
  pub room : forests_start size ≤ length ws
  pub ready : WellFormed (written_table size ws) m []
  pub holes : HolesBelow (written_table size ws)
  pub holders : HoldersWritten size (records size ws)

-- the words of a memory: those that a table needs, with the table, the told pairs in order, and all that the pairs say in the forests and in the forests again
pub record Holds (size m : ℕ) (told : List Pair) (ws : List ℕ) : Type 0 where
  pub room : used size m ≤ length ws
  pub table : HasTable size m ws
  pub pairs : take (2 * length told) ws ≡ pair_words told
  pub first : EnteredIn (written_table size ws) m told (first_copy size m ws)
  pub second : EnteredIn (written_table size ws) m told (second_copy size m ws)

-- the words write a table of some places, with names below m, that is well formed with at most 512 told pairs; these have a filling in common; and, if there are places, the words hold the table, the pairs, and both copies of the forests
pub record Solved (size m : ℕ) (told : List Pair) (ws : List ℕ) : Type 0 where
  pub few_told : length told ≤ 512
  pub ready : WellFormed (written_table size ws) m told
  pub filled : Satisfiable nat_eq (written_table size ws) told
  pub words : 0 < size → Holds size m told ws

-- the words write the table of the records, with a number for each leaf: leaves are the same in one exactly where they are in the other
abbrev pub CopiesTable : {L : Type 0} → (L → L → Bool) → List Place → List L → List ℕ → Type 0
CopiesTable same places ls ws =
    SameTables same nat_eq (table_of places ls) (written_table (length places) ws) ls (range_with_len 0 (length ls))

-- the same of what stands before the forests, the forests and the forests again
pub record SlicesHold (size m : ℕ) (told : List Pair) (before forests again : List ℕ) : Type 0 where
  pub table : HasTable size m before
  pub pairs : take (2 * length told) before ≡ pair_words told
  pub first : EnteredIn (written_table size before) m told forests
  pub second : EnteredIn (written_table size before) m told again

-- they do so for so many told pairs, which are well formed with the pair p, q after them
abbrev pub SlicesHoldBefore : ℕ → ℕ → ℕ → ℕ → ℕ → List ℕ → List ℕ → List ℕ → Type 0
SlicesHoldBefore size m standing p q before forests again =
    (told : List Pair) × (length told ≡ standing) × WellFormed (written_table size before) m (told ++ ((p, q) ∷ [])) × SlicesHold size m told before forests again
