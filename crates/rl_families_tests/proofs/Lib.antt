pub mod Following
pub mod Rising
