pub mod Counts
pub mod Rows
pub mod Whole
pub mod Tables
pub mod Steps
pub mod Laws
pub mod Describable
