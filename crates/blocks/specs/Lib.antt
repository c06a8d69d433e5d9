pub mod Loops
pub mod Blocks
