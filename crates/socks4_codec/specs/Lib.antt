pub mod Parts
pub mod Placed
pub mod Reads
pub mod Writes
pub mod Laws
