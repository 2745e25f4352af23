pub mod Draws
pub mod FiveWords
pub mod FormsBack
pub mod Kept
pub mod ReadBack
