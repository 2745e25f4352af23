pub mod Resends
pub mod StreamFits
