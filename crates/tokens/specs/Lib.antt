pub mod Covering
pub mod Pieces
pub mod Reading
pub mod Tokens
pub mod Words
