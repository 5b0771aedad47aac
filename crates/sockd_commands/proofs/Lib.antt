pub mod Files
pub mod Mores
pub mod Refusals
pub mod Statuses
pub mod Writing
