pub mod Chosen
pub mod Digits
pub mod Every
pub mod Front
pub mod NumeralRead
pub mod RatesPrinted
pub mod Symbols
