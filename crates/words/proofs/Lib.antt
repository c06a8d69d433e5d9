pub mod Passing
pub mod OneRow
pub mod Turning
pub mod Rows
pub mod Spreading
pub mod Loops
pub mod Sections
pub mod Laws
