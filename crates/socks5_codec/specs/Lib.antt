pub mod Parts
pub mod Placed
pub mod Reads
pub mod Steps
pub mod Writes
pub mod Laws
