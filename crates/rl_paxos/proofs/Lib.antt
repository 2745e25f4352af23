pub mod Acknowledged
pub mod Best
pub mod Counting
pub mod Least
