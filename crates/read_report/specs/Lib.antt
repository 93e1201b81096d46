pub mod Lent
pub mod Report
