pub mod FrontSizes
pub mod Steps
pub mod Covers
pub mod Exact
pub mod Spelling
