pub mod Entries
pub mod Limit
pub mod Report
pub mod Words
