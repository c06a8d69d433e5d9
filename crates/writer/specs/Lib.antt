pub mod Answers
pub mod Filling
