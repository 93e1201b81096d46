-- How far the lists are filled while recipes are read. Assumes nothing. (only private functions cite it)
use Rattle.std.specs.Prelude.{◌≡◌, ℕ, suc, ◌≤◌, ◌<◌, ◌^◌, List, [], ◌∷◌, length, Some, None, Option, Ok, Err, Result, All}
use Rattle.recipe.specs.Packing.{Spelling}
use Rattle.recipe.specs.declared.places.Place.{Place}
use Rattle.recipe.specs.declared.refusals.Refusal.{Refusal}
use Rattle.notation.specs.declared.lent_lists.LentLists.{LentLists}
use Rattle.notation.specs.Fitting.{Room, with_word}
use Rattle.notation.specs.Tables.{number, numbers_of, padded}
use Rattle.notation.specs.Reading.{room}
use Rattle.notation.specs.Machine.{Used, one_place, one_name, one_hole, one_leaf}
use Rattle.notation.specs.Threading.{overwritten}

-- a list with room for `most` entries has the spellings ns, and zeros after them
pub record Listing (most : ℕ) (ns : List (List ℕ)) (list : List ℕ) (count : ℕ) : Type 0 where
  pub counted : count ≡ length ns
  pub written : list ≡ padded (length list) 0 (numbers_of ns)
  pub spelled : All Spelling ns
  pub most_is : most ≡ room (length list)
  pub few : count ≤ most

-- a spelling got the number n, and the list has the spellings ns now
pub record Numbered (most : ℕ) (ns : List (List ℕ)) (n : ℕ) (list : List ℕ) (count : ℕ) (answer : ℕ) : Type 0 where
  pub number_is : answer ≡ n
  pub listing : Listing most ns list count

-- the answer to a spelling by which the list would have the spellings ns: its number n, or none where they are too many
abbrev pub NumberedOrFull : ℕ → List (List ℕ) → ℕ → List ℕ → ℕ → Option ℕ → Type 0
NumberedOrFull most ns n list count None = most < length ns
NumberedOrFull most ns n list count (Some answer) = Numbered most ns n list count answer

-- the counts are no higher than the room
pub record Sound (f : LentLists) : Type 0 where
  pub places : f.counts.places ≤ room (length f.places.now)
  pub names : f.counts.names ≤ room (length f.names.now)
  pub holes : f.counts.holes ≤ room (length f.holes.now)
  pub leaves : f.counts.leaves ≤ f.leaf_room
  pub leaf_room : f.leaf_room ≤ 2 ^ 32

-- the lists are lent by the same references, are as long, and the counts are no higher than the room
pub record Stays (old new : LentLists) : Type 0 where
  pub places_lent : new.places.ghost_name ≡ old.places.ghost_name
  pub names_lent : new.names.ghost_name ≡ old.names.ghost_name
  pub holes_lent : new.holes.ghost_name ≡ old.holes.ghost_name
  pub places_long : length new.places.now ≡ length old.places.now
  pub names_long : length new.names.now ≡ length old.names.now
  pub holes_long : length new.holes.now ≡ length old.holes.now
  pub leaf_room : new.leaf_room ≡ old.leaf_room
  pub sound : Sound new

-- the lists have this room, and so much of them is used
pub record Stands (most : Room) (used : Used) (f : LentLists) : Type 0 where
  pub place_room : most.places ≡ room (length f.places.now)
  pub leaf_room : most.leaves ≡ f.leaf_room
  pub places : f.counts.places ≡ used.places
  pub leaves : f.counts.leaves ≡ used.leaves
  pub places_few : used.places ≤ most.places
  pub leaves_few : used.leaves ≤ most.leaves
  pub names : Listing most.names used.names f.names.now f.counts.names
  pub holes : Listing most.holes used.holes f.holes.now f.counts.holes

-- the next place was taken, it has the number n, and the table is as it was
pub record TookPlace (most : Room) (used : Used) (table : List Place) (f : LentLists) (n : ℕ) : Type 0 where
  pub number_is : n ≡ used.places
  pub fits : used.places < most.places
  pub kept : f.places.now ≡ table
  pub stands : Stands most (one_place used) f

-- the next place was taken, or there is none
abbrev pub TookPlaceOrFull : Room → Used → List Place → LentLists → ℕ → Result ℕ Refusal → Type 0
TookPlaceOrFull most used table f at (Ok n) = TookPlace most used table f n
TookPlaceOrFull most used table f at (Err r) = (most.places < suc used.places) × (r ≡ Refusal.NoRoom at)

-- the next place was taken, it has the number n, and the record y
pub record AddedPlace (most : Room) (used : Used) (y : Place) (table : List Place) (f : LentLists) (n : ℕ) : Type 0 where
  pub number_is : n ≡ used.places
  pub fits : used.places < most.places
  pub written : f.places.now ≡ overwritten used.places (y ∷ []) table
  pub stands : Stands most (one_place used) f

-- a place was added, or there is no room
abbrev pub AddedPlaceOrFull : Room → Used → Place → List Place → LentLists → ℕ → Result ℕ Refusal → Type 0
AddedPlaceOrFull most used y table f at (Ok n) = AddedPlace most used y table f n
AddedPlaceOrFull most used y table f at (Err r) = (most.places < suc used.places) × (r ≡ Refusal.NoRoom at)

-- an entry of another list was used, it has the number n, and the table is as it was
pub record TookEntry (most : Room) (more : Used) (number : ℕ) (table : List Place) (f : LentLists) (n : ℕ) : Type 0 where
  pub number_is : n ≡ number
  pub kept : f.places.now ≡ table
  pub stands : Stands most more f

-- a name has a number, or finds no room
abbrev pub NamedOrFull : Room → Used → List ℕ → List Place → LentLists → ℕ → Result ℕ Refusal → Type 0
NamedOrFull most used w table f at (Ok n) = TookEntry most (one_name w used) (number used.names w) table f n
NamedOrFull most used w table f at (Err r) = (most.names < length (with_word used.names w)) × (r ≡ Refusal.NoRoom at)

-- a hole has a number, or finds no room
abbrev pub HoledOrFull : Room → Used → List ℕ → List Place → LentLists → ℕ → Result ℕ Refusal → Type 0
HoledOrFull most used w table f at (Ok n) = TookEntry most (one_hole w used) (number used.holes w) table f n
HoledOrFull most used w table f at (Err r) = (most.holes < length (with_word used.holes w)) × (r ≡ Refusal.NoRoom at)

-- a leaf has a number, or finds no room
abbrev pub TookLeafOrFull : Room → Used → List Place → LentLists → ℕ → Result ℕ Refusal → Type 0
TookLeafOrFull most used table f at (Ok n) = TookEntry most (one_leaf used) used.leaves table f n
TookLeafOrFull most used table f at (Err r) = (most.leaves < suc used.leaves) × (r ≡ Refusal.NoRoom at)
