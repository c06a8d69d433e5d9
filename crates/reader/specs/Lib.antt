pub mod Sections
pub mod Counts
pub mod Files
pub mod Walks
pub mod Claims
pub mod Describing
pub mod Unpacking
pub mod Written
