pub mod Acceptors
pub mod Laws
pub mod Leaders
pub mod Logs
pub mod Quorums
pub mod Recovery
