pub mod Meanings
pub mod Numbers
pub mod Printed
pub mod Text
