pub mod Appends
pub mod BatchLaws
pub mod ItemLaws
pub mod Rising
pub mod Sizes
pub mod WriteLaws
