mod Rows
pub mod Bytes
pub mod Names
pub mod Numbers
pub mod Asked
pub mod Moved
pub mod Prefixes
pub mod Spelled
