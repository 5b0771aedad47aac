pub mod Walks
pub mod Reading
pub mod Adding
pub mod Again
pub mod ReadAgain
pub mod Kept
