pub mod Steps
pub mod OneRow
pub mod RawRow
pub mod Limits
