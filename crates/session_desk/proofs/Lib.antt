pub mod Places
pub mod Counts
pub mod Changes
pub mod Laws
pub mod Limits
