pub mod Words
pub mod Spread
