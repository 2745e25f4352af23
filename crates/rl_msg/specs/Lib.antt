pub mod Encoding
pub mod Laws
pub mod Parts
pub mod Ranges
pub mod Reading
