pub mod Ways
pub mod Pumping
pub mod Halts
pub mod Sending
