pub mod Blocks
pub mod Canonical
pub mod Keys
pub mod Reads
pub mod Settings
pub mod Taking
pub mod Values
pub mod Writing
