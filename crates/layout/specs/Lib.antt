pub mod Recording
pub mod Channels
pub mod Turns
pub mod Slim
pub mod Claims
pub mod Plain
pub mod Example
