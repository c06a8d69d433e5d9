pub mod Parts
pub mod Folds
pub mod Packing
pub mod Unpacking
pub mod Exact
