pub mod ListsLemmas
pub mod Members
pub mod NumberLemmas
pub mod OrderLemmas
pub mod Prefixes
pub mod Tests
pub mod Turns
pub mod UpdateLemmas
