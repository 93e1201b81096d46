pub mod Lines
pub mod Report
pub mod Roots
pub mod Listed
pub mod Lists
