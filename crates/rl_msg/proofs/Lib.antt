pub mod MsgLaws
pub mod Zips
