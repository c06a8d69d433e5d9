pub mod Describing
pub mod Packing
pub mod Putting
pub mod Named
