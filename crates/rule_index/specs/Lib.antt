pub mod Classes
pub mod Index
pub mod Search
