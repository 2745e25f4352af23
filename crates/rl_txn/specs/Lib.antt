pub mod Eval
pub mod Fits
pub mod Laws
pub mod RowSets
pub mod Run
pub mod Serial
pub mod Steps
pub mod Words
