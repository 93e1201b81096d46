pub mod Accepted
pub mod Helpers
pub mod Refused
pub mod Tables
