pub mod Runs
pub mod Led
pub mod Elections
pub mod Laws
pub mod Messages
