pub mod Begun
pub mod Putting
pub mod Bounds
pub mod Opening
pub mod Streaming
pub mod Filling
pub mod Pouring
