pub mod Cells
pub mod Declare
pub mod Entries
pub mod Fits
pub mod Names
pub mod Rows
pub mod Tables
