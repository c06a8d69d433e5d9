pub mod Heads
pub mod Rows
pub mod Fronts
pub mod Whole
