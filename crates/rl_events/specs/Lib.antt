pub mod Events
pub mod Expanded
pub mod Fits
pub mod Forms
pub mod Printed
pub mod Words
