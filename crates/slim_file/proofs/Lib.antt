pub mod Words
pub mod Recording
