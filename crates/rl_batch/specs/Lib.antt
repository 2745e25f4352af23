pub mod Encoding
pub mod Laws
pub mod Ranges
pub mod Reading
