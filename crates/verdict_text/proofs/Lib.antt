pub mod Endings
pub mod Routes
pub mod Rows
