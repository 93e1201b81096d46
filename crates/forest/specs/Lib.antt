pub mod Exact
pub mod Rows
pub mod Steps
