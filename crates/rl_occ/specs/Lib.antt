pub mod Fits
pub mod Reading
pub mod Locking
pub mod Outcomes
pub mod Committing
pub mod Attempts
pub mod Working
