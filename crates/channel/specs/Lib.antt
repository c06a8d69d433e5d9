pub mod Records
pub mod Piles
pub mod Words
pub mod Descriptions
pub mod Names
