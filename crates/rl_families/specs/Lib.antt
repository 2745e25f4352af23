pub mod Logs
pub mod Order
pub mod Families
pub mod Streams
pub mod Leaders
pub mod LeadersLogs
pub mod Joining
pub mod Laws
