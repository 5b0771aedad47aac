pub mod Finding
pub mod Reaching
