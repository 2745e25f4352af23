pub mod Appends
pub mod DecodeLaws
pub mod FieldLaws
pub mod Loops
pub mod SeriesLaws
