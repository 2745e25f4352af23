pub mod Balances
pub mod Dealt
pub mod EventsFit
pub mod Fits
pub mod Repeats
