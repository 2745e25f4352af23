pub mod Digits
pub mod FirstWords
pub mod Lines
pub mod Printable
pub mod Texts
pub mod WordsBack
