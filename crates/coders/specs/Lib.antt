pub mod Chosen
pub mod Flagged
