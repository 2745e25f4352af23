pub mod Counts
pub mod Differences
pub mod Inputs
pub mod Laws
pub mod Reruns
pub mod Right
pub mod Verdicts
