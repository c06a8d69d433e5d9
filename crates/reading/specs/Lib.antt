pub mod Told
pub mod Sources
pub mod Flags
pub mod Descriptions
pub mod Blocks
pub mod Heads
pub mod Items
pub mod Agreement
