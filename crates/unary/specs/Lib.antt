pub mod Unary
pub mod Sound
