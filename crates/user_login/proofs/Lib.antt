pub mod Comparing
pub mod Messages
pub mod Lines
pub mod Limits
pub mod Numbers
pub mod Prefixes
mod Rows
