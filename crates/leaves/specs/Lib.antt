pub mod Printing
pub mod RateReading
pub mod Rates
pub mod Symbols
pub mod CrossProducts
pub mod RatesLemmas
