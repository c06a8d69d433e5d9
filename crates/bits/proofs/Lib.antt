pub mod Numbers
pub mod Files
pub mod Fields
pub mod Places
pub mod Words
pub mod Laws
pub mod Raw
