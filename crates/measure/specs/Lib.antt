pub mod Asks
pub mod Passes
pub mod Preludes
pub mod Sizes
