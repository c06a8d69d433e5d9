pub mod Bytes
pub mod Sizes
pub mod Fits
