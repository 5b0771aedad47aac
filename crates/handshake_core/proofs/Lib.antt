pub mod Tight
pub mod Fine
pub mod Shifting
pub mod Named
pub mod Asking
pub mod Stages
pub mod Hearing
pub mod Entering
pub mod Feeding
pub mod Taking
pub mod Whole
pub mod Lengths
pub mod Places
pub mod Running
pub mod Preludes
pub mod PreludeStops
mod Rows
