pub mod CandidateFits
pub mod Chosen
pub mod Example
pub mod Laws
pub mod StreamEvents
pub mod World
