pub mod Closures
pub mod Causes
pub mod Decision
pub mod Names
pub mod OtherLeaves
pub mod Walks
