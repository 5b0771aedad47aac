mod Rows
pub mod Ended
pub mod Prefixes
pub mod Spelled
pub mod UserName
