-- the theorems of src/, in its order
pub mod ValidTables
pub mod MatchingDecided
pub mod CausesFound
pub mod WalksExact
pub mod OtherLeaves
-- what fillings and the closures have to do with each other
pub mod FillingExists
pub mod Kept
pub mod Building
pub mod MatchedNames
pub mod Misnaming
-- that the closures are decided
pub mod LinksDecided
pub mod NamesDecided
pub mod ClosureDecided
pub mod ClosureGrown
-- two tables beside each other
pub mod SameParts
pub mod AlikeLeaves
pub mod NamesAsHoles
-- recipes and forms
pub mod Relations
pub mod Renaming
pub mod LabelsAlong
pub mod Layers
pub mod Forms
pub mod Differing
pub mod EqualNames
-- what is decided, at large
pub mod Known
pub mod Growing
