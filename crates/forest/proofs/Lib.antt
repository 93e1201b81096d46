pub mod Linking
pub mod Moves
pub mod OneMore
pub mod Roots
