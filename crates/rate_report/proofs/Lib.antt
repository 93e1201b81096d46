pub mod Cuts
pub mod Listed
pub mod Prefixes
pub mod Whole
