pub mod Banks
pub mod Jobs
